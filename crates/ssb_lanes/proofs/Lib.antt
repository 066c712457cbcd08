mod AssemblyFacts
mod AssemblyLines
mod BerthMoves
mod BesideFacts
mod BoardFacts
pub mod Crossing
mod CrossingBerths
pub mod JoinedFacts
mod JoiningFacts
mod LaneFacts
mod MovedFacts
mod PartReading
mod PartTaking
mod SkippingFacts
mod SpanFacts
mod TogetherFacts
