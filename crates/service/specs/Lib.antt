pub mod Calls
pub mod Claims
