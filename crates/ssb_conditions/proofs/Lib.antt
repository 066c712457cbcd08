pub mod Cells
pub mod Together
pub mod Saying
