pub mod Advancing
pub mod Advances
