pub mod Puttings
pub mod Encodes
pub mod Pictures
pub mod Writes
