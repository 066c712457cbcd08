pub mod Benchmark
pub mod Commands
pub mod Words
