pub mod Spelt
mod Conditioned
mod ShownFacts
