pub mod Lifetimes
pub mod Meters
pub mod Idles
pub mod Numerals
