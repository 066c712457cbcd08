pub mod Columns
pub mod Pieces
pub mod Shown
pub use Rattle.ssb_rows.specs.Order
pub use Rattle.ssb_rows.specs.Taking
pub use Rattle.ssb_rows.specs.Text
