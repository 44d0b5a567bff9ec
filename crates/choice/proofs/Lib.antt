pub mod Held
pub mod Sweeps
pub mod Walk
pub mod Walked
pub mod Stored
pub mod Leading
