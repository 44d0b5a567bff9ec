pub mod Bools
pub mod Lists
pub mod Below
pub mod PerByte
pub mod Group
pub mod Round
pub mod Compare
pub mod Whole
