pub mod Bands
pub mod Inner
pub mod Claim
