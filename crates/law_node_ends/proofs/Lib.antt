mod Passed
pub mod Stops
mod Unused
