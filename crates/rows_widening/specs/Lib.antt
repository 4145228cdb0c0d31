pub mod Widening
pub mod Inner
