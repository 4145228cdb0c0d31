pub mod Words
pub mod Boundary
