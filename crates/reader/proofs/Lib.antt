pub mod Phases
pub mod Places
pub mod Walks
