pub mod Domains
pub mod KeySets
pub mod Sets
