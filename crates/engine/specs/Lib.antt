pub mod Turns
pub mod Does
pub mod LagRange
