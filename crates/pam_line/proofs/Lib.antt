pub mod Saying
pub mod Trials
