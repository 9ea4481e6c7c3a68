pub mod Counts
pub mod Failing
pub mod Backs
pub mod Calls
pub mod Answered
pub mod Script
pub mod Memory
pub mod Numerals
