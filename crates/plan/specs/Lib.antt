pub mod Fields
pub mod Judge
pub mod Read
pub mod Accepted
pub mod Promises
pub mod Examples
