mod ExprForms
pub mod Columns
pub mod Finding
pub mod Forms
pub mod InOrder
pub mod MappedLeaves
pub mod Mapping
pub mod Relabelled
mod MixedForms
pub mod OwnColumn
pub mod Sizes
pub mod Taken
pub mod TextColumns
pub mod Turns
pub mod TypeFacts
