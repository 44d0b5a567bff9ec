pub mod Steps
pub mod Fields
pub mod Entered
pub mod Numbers
pub mod Bytes
pub mod Lists
pub mod Last
