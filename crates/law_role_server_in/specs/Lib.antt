pub mod Refusing
pub mod Handovers
