pub mod Readers
pub mod Heads
pub mod Ends
pub mod Steps
pub mod Answers
pub mod Verdicts
