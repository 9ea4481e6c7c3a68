pub mod Steps
pub mod Scripts
pub mod Verbs
pub mod ParsedSteps
pub mod Readings
