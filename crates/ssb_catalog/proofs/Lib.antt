mod BuiltInFacts
mod CatalogFaults
mod CatalogLaws
mod CatalogTaking
pub mod Choices
mod DraftFacts
mod EntryFacts
mod GroupFacts
mod ListFacts
mod PlaceFacts
mod ShortNames
