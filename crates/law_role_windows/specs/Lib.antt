pub mod Acknowledging
pub mod Held
pub mod Room
