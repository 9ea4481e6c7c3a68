pub mod Waiting
pub mod Acks
pub mod Room
