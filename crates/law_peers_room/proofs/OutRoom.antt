pub mod Behind
pub mod Few
pub mod Fits
pub mod Held
pub mod Merging
pub mod Rounds
pub mod Steps
