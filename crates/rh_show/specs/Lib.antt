pub mod Lines
pub mod Readings
pub mod Shown
pub mod Numerals
