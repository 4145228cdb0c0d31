pub mod Scaled
pub mod Out
pub mod Inner
