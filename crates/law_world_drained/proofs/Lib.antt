pub mod Places
pub mod Sound
pub mod Ways
pub mod Worlds
