pub mod Narrow
pub mod Filled
pub mod Stored
pub mod Shown
pub mod Back
pub mod Steps
