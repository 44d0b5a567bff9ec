pub mod States
pub mod Lanes
pub mod Back
