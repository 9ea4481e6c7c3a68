pub mod Cookies
pub mod Closing
pub mod Facts
pub mod Zeros
pub mod Recorded
pub mod AtClients
pub mod OwnClient
pub mod IsLegs
pub mod EachNode
pub mod Amiss
pub mod Roomy
mod TurnsRecorded
