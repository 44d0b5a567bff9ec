pub mod Copying
pub mod Filling
pub mod Moving
pub mod Lanes
pub mod Encoding
pub mod Answering
pub mod Takes
pub mod Lists
