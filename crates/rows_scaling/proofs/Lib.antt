pub mod Clamp
pub mod Factors
pub mod ShrinkLanes
pub mod BlendLanes
pub mod RestRange
pub mod ScaleValues
