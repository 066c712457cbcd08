pub mod Asking
mod Fresh
mod InMemory
mod Keyed
pub mod Running
mod SessionFacts
mod ShownFacts
mod StatementFacts
mod WholeSessions
mod WorkedOff
pub mod WrittenBack
pub use Rattle.ssb_lanes.proofs.Crossing
