pub mod Start
pub mod Inner
