pub mod Columns
pub mod NextColumn
pub mod Differences
pub mod Lanes
pub mod Tones
pub mod Layouts
pub mod Importing
pub mod Outputs
