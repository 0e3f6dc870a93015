pub mod Digits
pub mod Buffers
pub mod Spaces
pub mod Squares
