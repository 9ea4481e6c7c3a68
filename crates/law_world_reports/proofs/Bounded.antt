mod Numbers
pub mod Reached
pub mod Windows
pub mod Onwards
