pub mod Blocks
pub mod Pairing
pub mod Gathering
