pub mod First
pub mod Tries
