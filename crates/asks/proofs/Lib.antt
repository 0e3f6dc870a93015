pub mod Asks
pub mod Unlinks
