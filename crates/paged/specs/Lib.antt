pub mod Paged
pub mod Settles
