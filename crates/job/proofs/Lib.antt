pub mod Views
pub mod Ready
pub mod Answering
pub mod RowIn
pub mod Counting
pub mod Accepting
pub mod RowOut
pub mod Lengths
