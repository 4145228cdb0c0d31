pub mod Jobs
pub mod Alike
pub mod Lawful
pub mod Going
pub mod Forming
