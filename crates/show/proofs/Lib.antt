pub mod Shows
pub mod Spots
mod WorstWaits
