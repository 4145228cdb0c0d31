pub mod Layout
pub mod Lanes
pub mod RoundTrips
