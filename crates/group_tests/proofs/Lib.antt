pub mod Summing
pub mod Testing
pub mod Answering
