pub mod Follow
pub mod Returned
pub mod Refuses
pub mod Again
pub mod Claimed
