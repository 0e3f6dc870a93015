pub mod Laws
pub mod Sizes
pub mod Gets
pub mod Puts
