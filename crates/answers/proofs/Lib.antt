pub mod Shared
pub mod Made
pub mod Replies
