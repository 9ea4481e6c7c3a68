pub mod Summing
pub mod Along
