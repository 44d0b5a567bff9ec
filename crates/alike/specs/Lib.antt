pub mod Alike
pub mod AlikeDevice
