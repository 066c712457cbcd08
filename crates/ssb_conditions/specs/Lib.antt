pub mod Holds
pub mod Met
pub mod Rows
pub mod Together
pub use Rattle.ssb_cells.specs.Cell
pub use Rattle.ssb_cells.specs.Tables
pub use Rattle.ssb_cells.specs.Truth
pub use Rattle.ssb_cells.specs.Values
