pub mod Places
pub mod SameChoice
pub mod Turns
pub mod Alike
pub mod AlikeDevice
pub mod Reached
