pub mod Pipes
pub mod Waiting
pub mod Legs
pub mod Given
