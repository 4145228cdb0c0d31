pub mod Chain
pub mod Lengths
