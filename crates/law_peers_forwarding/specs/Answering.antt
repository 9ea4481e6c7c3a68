pub mod Passing
pub mod Wishes
