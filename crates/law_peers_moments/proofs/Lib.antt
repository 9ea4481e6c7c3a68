pub mod Read
pub mod Joining
pub mod GoingRound
