pub mod Lines
pub mod Parts
pub mod Standing
pub mod Verdicts
pub mod Going
pub mod Longer
