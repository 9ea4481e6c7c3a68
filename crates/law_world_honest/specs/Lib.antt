pub mod Refusals
pub mod Honesty
pub mod WorldAsked
