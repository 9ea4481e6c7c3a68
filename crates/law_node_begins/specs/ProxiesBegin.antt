pub mod Pipes
pub mod Reached
pub mod Echoes
