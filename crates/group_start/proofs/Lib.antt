pub mod Forming
pub mod Starting
