pub mod Announces
pub mod Told
pub mod More
pub mod Fits
pub mod InOrder
pub mod Answered
