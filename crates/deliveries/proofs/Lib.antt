pub mod Receives
pub mod Delivers
