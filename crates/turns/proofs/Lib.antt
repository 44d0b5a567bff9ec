pub mod Round
pub mod Train
pub mod Putting
pub mod Handing
pub mod HandingCode
pub mod Good
