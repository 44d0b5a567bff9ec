pub mod WordBits
pub mod RingWalk
pub mod ListWalk
pub mod GroupWords
pub mod GroupWalk
pub mod InARow
pub mod Meaning
pub mod Exact
