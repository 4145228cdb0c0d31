pub mod Numbers
pub mod Fitting
pub mod Truths
pub mod Causes
