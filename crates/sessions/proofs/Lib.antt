pub mod Responding
pub mod Sessions
