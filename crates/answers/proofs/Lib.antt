pub mod Ways
pub mod Calls
pub mod Applied
