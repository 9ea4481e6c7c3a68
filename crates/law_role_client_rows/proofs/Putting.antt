mod Fronts
pub mod Channels
mod Openings
mod Facts
mod Changes
mod Writing
mod Beginning
mod Rows
pub mod Laws
