pub mod Growing
pub mod Inner
