pub mod Pass
pub mod Table
pub mod Encodes
pub mod Kept
