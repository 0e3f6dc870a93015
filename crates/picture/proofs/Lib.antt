pub mod Rounds
pub mod Tabular
pub mod Forms
pub mod RoundTrip
pub mod InOrder
pub mod Lengths
pub mod Loads
pub mod Claimed
