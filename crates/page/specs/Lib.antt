pub mod Fields
pub mod Read
pub mod Form
pub mod Promises
pub mod Examples
