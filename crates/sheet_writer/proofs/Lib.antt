pub mod Writing
pub mod Most
pub mod Calls
