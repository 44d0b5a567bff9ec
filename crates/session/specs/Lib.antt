pub mod Ran
pub mod Requests
pub mod Examples
pub mod Computed
pub mod EveryKind
pub mod Junction
pub mod One
