pub mod Writing
pub mod Most
