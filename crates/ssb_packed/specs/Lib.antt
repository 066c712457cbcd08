pub mod Flags
pub mod Lent
pub mod Narrow
pub mod Recoded
