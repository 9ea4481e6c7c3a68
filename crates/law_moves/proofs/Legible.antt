pub mod Each
pub mod Frames
pub mod Packets
