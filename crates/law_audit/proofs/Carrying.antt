pub mod Yes
pub mod Frames
