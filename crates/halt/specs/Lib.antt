pub mod Halt
pub mod Lists
pub mod Examples
