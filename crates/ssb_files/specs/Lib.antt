pub mod Faults
pub mod Files
pub mod Listing
pub mod Opening
pub mod Shown
pub use Rattle.ssb_catalog.specs.BuiltIn
pub use Rattle.ssb_lanes.specs.Sections
pub use Rattle.ssb_reply.specs.FaultLine
