pub mod Finding
pub mod Giving
pub mod Looking
pub mod Standing
pub mod Steps
