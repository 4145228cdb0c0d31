pub mod Resize
pub mod Inner
