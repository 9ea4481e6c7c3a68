pub mod Messages
pub mod Logs
