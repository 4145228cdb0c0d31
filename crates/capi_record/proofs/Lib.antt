pub mod Records
pub mod Offers
