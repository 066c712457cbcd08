mod FlagFacts
pub mod Loops
