pub mod Replaces
pub mod Loads
