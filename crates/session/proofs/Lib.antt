pub mod Bounds
pub mod Requests
pub mod Examples
pub mod One
