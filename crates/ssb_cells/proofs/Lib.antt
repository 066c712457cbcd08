pub mod CodeFacts
pub mod ColumnFacts
pub mod JoinFacts
pub mod LentFacts
pub mod OrderLaws
pub mod PartFacts
pub mod SpellingFacts
pub mod TableFacts
