pub mod Legs
pub mod Steps
pub mod Keeps
pub mod Items
mod Answered
pub mod Channels
pub mod Refusals
mod Told
pub mod Telling
pub mod Naming
