pub mod Requests
pub mod Making
pub mod Standing
pub mod Sums
pub mod Tallies
pub mod Texts
pub mod Numerals
