pub mod Session
pub mod Claims
