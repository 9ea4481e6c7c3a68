pub mod Acks
pub mod Overtaking
pub mod Answered
pub mod Forwarding
pub mod Owning
