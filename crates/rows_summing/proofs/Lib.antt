pub mod Blocks
pub mod Opaque
