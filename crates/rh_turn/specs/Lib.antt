pub mod History
pub mod Rule
pub mod Values
pub mod Calls
pub mod Steps
