pub mod Answers
pub mod Pictures
pub mod Badges
