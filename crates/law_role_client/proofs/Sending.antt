pub mod Steps
pub mod Logs
pub mod Facts
mod Channels
mod Changes
mod Rows
pub mod Puts
mod Next
pub mod Laws
