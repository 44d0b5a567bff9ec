pub mod Setups
pub mod Tables
pub mod Steps
pub mod Lists
pub mod Share
pub mod Examples
