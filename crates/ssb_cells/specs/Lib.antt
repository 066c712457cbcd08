pub mod Building
pub mod Cell
pub mod Codes
pub mod Compare
pub mod Joined
pub mod Lawful
pub mod Lent
pub mod Order
pub mod Parts
pub mod Spelling
pub mod Stored
pub mod Tables
pub mod Truth
pub mod Values
pub use Rattle.ssb_packed.specs.Lent as PackedLent
pub use Rattle.ssb_terms.specs.declared.operator.Op
pub use Rattle.ssb_terms.specs.declared.rule.ColType
