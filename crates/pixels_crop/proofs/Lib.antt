pub mod Windows
pub mod Lengths
