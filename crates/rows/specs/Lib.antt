pub mod Column
pub mod Lanes
pub mod WorkRows
pub mod Import
pub mod Tones
pub mod Output
pub mod Closed
pub mod Inner
