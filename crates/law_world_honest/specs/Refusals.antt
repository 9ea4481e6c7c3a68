pub mod Refused
pub mod Reported
