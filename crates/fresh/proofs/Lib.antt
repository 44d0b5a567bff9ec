pub mod Mixed
pub mod States
pub mod Added
pub mod Packed
pub mod Leaves
pub mod Writing
pub mod FreshGood
