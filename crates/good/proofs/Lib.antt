pub mod Lanes
pub mod Walk
pub mod Sums
pub mod Told
pub mod FoundTold
pub mod Whole
pub mod Encodes
