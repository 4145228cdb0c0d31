pub mod Going
pub mod Ending
pub mod Turning
pub mod Answers
