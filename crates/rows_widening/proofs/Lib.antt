pub mod RowBytes
pub mod Storing
pub mod GrowingRows
pub mod LaneRows
