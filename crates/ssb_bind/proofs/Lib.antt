pub mod Bindable
pub mod Counting
pub mod Existing
pub mod Finding
pub mod Having
pub mod Least
pub mod Meaning
pub mod Relation
