pub mod Calls
pub mod Rows
pub mod Claim
pub mod Trials
