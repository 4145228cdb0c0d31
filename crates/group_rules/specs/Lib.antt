pub mod Group
pub mod Inner
pub mod Tests
