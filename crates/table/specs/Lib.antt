pub mod Layout
pub mod Means
pub mod Encodes
