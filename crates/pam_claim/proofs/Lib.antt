pub mod Digits
pub mod Texts
pub mod Theorem
pub mod Trials
