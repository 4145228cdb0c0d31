pub mod Made
pub mod Crop
pub mod Needed
pub mod Counts
