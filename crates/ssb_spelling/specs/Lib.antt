pub mod Conditions
pub mod Titles
