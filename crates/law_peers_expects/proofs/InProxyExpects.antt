pub mod Fronts
pub mod Channels
mod OnClient
mod Known
pub mod Announces
mod Newest
pub mod Raised
pub mod OnServer
pub mod Answered
mod Past
pub mod Counts
pub mod Early
pub mod Untold
pub mod Expects
