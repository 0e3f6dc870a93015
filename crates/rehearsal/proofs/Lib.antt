pub mod Rows
pub mod Decimals
pub mod Lengths
pub mod Outcomes
pub mod Examples
pub mod Returns
