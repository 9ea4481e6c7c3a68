pub mod Acks
pub mod Windows
pub mod Receiving
