pub mod Slots
pub mod View
