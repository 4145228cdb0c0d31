pub mod Word
pub mod Quotient
pub mod FixedPoint
pub mod Sum
pub mod Table
pub mod Weight
pub mod Matte
