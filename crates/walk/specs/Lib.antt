pub mod Script
pub mod Follows
pub mod Walks
