pub mod Stores
pub mod Widths
pub mod Signed
