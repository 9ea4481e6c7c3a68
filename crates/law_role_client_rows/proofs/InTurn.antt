pub mod Lists
pub mod Standing
mod Facts
mod Changes
mod Rows
mod Putting
pub mod Laws
pub mod Begun
pub mod NoPing
