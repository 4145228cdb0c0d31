pub mod Tones
pub mod Pairs
pub mod GrownRows
pub mod Widened
