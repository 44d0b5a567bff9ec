pub mod Means
pub mod Tested
pub mod Stores
pub mod Order
pub mod Decided
