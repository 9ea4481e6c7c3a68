pub mod Both
pub mod InTime
pub mod Losses
