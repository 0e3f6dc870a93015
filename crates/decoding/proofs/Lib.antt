pub mod Ways
pub mod Decodes
pub mod Fields
