pub mod Digits
pub mod Under
