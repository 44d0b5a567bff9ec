pub mod Tags
pub mod Heads
pub mod Values
