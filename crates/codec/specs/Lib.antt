pub mod Codec
pub mod Over
