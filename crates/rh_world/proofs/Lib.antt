pub mod PieceLaws
pub mod Ranges
mod Frames
pub mod Ways
pub mod Runs
pub mod Either
pub mod Settling
