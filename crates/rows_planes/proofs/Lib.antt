pub mod Summing
pub mod LaneColumns
pub mod PlaneHalves
