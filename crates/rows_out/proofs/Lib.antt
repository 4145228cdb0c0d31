pub mod ScaleRow
pub mod Making
