-- What private functions ask and ensure, and the lanes side by side in which the public functions of rows speak: `at`, `Four`, `oct_at`, `Eight`, `byte_at`.
pub mod Import
pub mod NextColumn
pub mod Differences
