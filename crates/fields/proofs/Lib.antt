pub mod Numbers
pub mod Header
pub mod Item
pub mod Tested
