pub mod Downwards
pub mod Upwards
