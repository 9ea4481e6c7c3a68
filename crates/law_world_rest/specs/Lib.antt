pub mod Rest
pub mod Steady
pub mod Recordings
