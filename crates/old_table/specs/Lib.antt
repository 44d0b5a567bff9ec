pub mod Old
pub mod Tested
pub mod Kept
