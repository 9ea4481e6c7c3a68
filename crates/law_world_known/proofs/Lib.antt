pub mod Arrived
pub mod Heard
pub mod Worlds
pub mod Hops
pub mod Recorded
pub mod Besides
