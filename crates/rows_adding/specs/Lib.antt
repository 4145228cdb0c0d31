pub mod Adding
pub mod Put
pub mod Inner
