pub mod Counting
pub mod Channels
pub mod Noting
