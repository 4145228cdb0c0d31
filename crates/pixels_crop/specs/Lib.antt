pub mod Crop
