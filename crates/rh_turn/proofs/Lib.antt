pub mod Beginnings
pub mod Histories
mod Sums
mod Seats
mod Turning
mod Sharing
mod Ending
