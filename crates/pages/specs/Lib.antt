pub mod Device
pub mod Offers
pub mod Claims
pub mod OneCall
pub mod Carried
pub mod Other
pub mod Waits
pub mod Examples
