mod Lists
pub mod Standing
mod Counts
mod Counting
pub mod NoneUp
