pub mod Analyzed
pub mod Explained
pub mod GroupCount
pub mod Members
