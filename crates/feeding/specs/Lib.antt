pub mod Feed
pub mod Sessions
pub mod Claims
