pub mod Walking
pub mod Reading
pub mod Blank
pub mod Texts
