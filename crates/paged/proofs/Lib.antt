pub mod Core
pub mod Groups
pub mod Units
pub mod Lending
pub mod Settled
pub mod Tested
