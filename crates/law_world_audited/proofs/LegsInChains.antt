pub mod AllWhole
pub mod Seen
pub mod Tagging
pub mod Recorded
pub mod FarUp
