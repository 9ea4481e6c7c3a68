pub mod Heads
pub mod Causes
pub mod Rows
pub mod Honest
