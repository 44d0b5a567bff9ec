pub mod KeepHand
pub mod Keep
pub mod Order
pub mod Figure
pub mod Under
pub mod Others
pub mod Test
pub mod Held
