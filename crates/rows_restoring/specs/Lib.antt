pub mod Restoring
pub mod Inner
