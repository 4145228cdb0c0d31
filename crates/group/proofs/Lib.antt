pub mod Kept
pub mod Counted
pub mod Going
pub mod Feeding
pub mod Answering
