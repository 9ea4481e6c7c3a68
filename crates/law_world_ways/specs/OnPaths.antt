pub mod OnWay
pub mod Lost
pub mod Forgotten
pub mod Laws
pub mod Legs
pub mod Ways
pub mod Recordings
