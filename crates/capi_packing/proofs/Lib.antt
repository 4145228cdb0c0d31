pub mod Packings
