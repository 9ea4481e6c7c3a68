pub mod Fronts
pub mod Sounds
mod Waiting
pub mod Tests
mod Ups
mod Rows
mod Stands
pub mod Goes
mod Behind
mod Fresh
pub mod Laws
mod Picks
pub mod Ends
mod Windows
pub mod Sends
