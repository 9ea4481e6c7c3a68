pub mod Outputs
pub mod Words
pub mod Numerals
