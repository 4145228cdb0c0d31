pub mod Planes
pub mod Lengths
pub mod Flags
