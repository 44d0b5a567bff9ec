pub mod Bits
pub mod Laws
pub mod Store
pub mod Emptied
pub mod Lowered
