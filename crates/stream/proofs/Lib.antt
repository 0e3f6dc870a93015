pub mod Gathering
pub mod Answering
pub mod Feeding
pub mod Turning
