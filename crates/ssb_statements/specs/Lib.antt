pub mod Bytes
pub mod Cutting
pub mod Parting
pub mod Reader
pub mod Reading
pub mod ScriptParts
pub mod Scripts
pub mod Telling
