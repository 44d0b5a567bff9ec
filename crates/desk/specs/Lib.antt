pub mod Board
pub mod Calls
pub mod Claims
