pub mod Header
pub mod Inner
