pub mod Conditions
pub mod Expressions
pub mod Lists
pub mod Types
