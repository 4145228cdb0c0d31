pub mod In
