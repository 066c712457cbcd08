pub mod Blocks
pub mod Cutting
mod FieldFacts
mod Handing
mod Left
pub mod LineFacts
pub mod LineRecords
mod Looking
mod Reading
mod Step
mod Taking
pub mod TakingAll
mod Walks
