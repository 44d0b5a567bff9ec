pub mod Lists
pub mod Changes
