pub mod Ways
pub mod Sectioned
pub mod Gathers
pub mod Closes
pub mod Pictures
pub mod Alone
