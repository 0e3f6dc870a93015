pub mod Words
pub mod Values
pub mod Spellings
pub mod Shapes
pub mod Commands
