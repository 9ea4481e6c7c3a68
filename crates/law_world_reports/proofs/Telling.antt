mod Passed
pub mod Adding
pub mod Parts
mod Tales
pub mod Acting
pub mod Lines
pub mod Splits
pub mod Shut
pub mod Behind
pub mod GoingOn
pub mod Recorded
