pub mod Form
pub mod Judge
pub mod Read
pub mod Text
pub mod Promises
