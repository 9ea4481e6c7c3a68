pub mod Passed
pub mod Stops
