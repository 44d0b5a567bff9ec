pub mod Setting
pub mod Lane
pub mod Trains
