mod Along
pub mod Windows
mod Facts
pub mod Replaced
pub mod Rows
mod Ups
mod Puts
pub mod Receives
