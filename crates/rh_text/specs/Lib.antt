pub mod Ends
pub mod Lines
pub mod Digits
pub mod Numbers
pub mod Writing
