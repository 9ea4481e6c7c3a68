pub mod Known
pub mod Recordings
pub mod Left
