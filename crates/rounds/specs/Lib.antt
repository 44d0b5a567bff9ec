pub mod Round
pub mod Good
pub mod Runs
