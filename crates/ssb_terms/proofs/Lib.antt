pub mod LowerFacts
pub mod NameFacts
pub mod RoleFacts
