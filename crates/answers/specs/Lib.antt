pub mod Called
pub mod Change
