pub mod DigitFacts
pub mod FaultFacts
pub mod HoldsFacts
pub mod LawfulFacts
pub mod LoadingAll
pub mod NumberFacts
pub mod OneKey
pub mod RuleFacts
pub mod TableTaking
mod WordFacts
