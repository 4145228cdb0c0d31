pub mod Mean
