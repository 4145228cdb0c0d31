pub mod EveryFactor
pub mod OpaqueRows
pub mod RestoredPixels
pub mod RestoreRow
