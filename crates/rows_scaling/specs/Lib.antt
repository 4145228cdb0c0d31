pub mod Scaling
pub mod Inner
