mod Cutting
mod FrameItems
mod LineTexts
mod Places
pub mod Printed
mod WholeFrames
