pub mod DomainFacts
mod SetFacts
