pub mod Over
pub mod Converts
pub mod Takes
pub mod Lists
