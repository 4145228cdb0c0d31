pub mod Tabled
pub mod Packing
pub mod Matted
