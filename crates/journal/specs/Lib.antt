pub mod Reads
pub mod Record
pub mod Field
pub mod Step
pub mod Bytes
pub mod Lists
