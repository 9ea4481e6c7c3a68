pub mod Room
pub mod Waits
