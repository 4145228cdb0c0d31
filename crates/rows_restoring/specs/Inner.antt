-- What only the private functions of this crate are asked and promise. Assumes nothing.
pub mod Restoring
