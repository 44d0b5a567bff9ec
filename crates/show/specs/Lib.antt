pub mod Views
pub mod Worst
pub mod Shows
