pub mod Adding
pub mod Putting
