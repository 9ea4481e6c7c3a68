pub mod Acknowledging
pub mod Held
