pub mod Refusals
pub mod Honesty
mod WorldAsked
