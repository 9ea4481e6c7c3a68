mod LiveBytes
mod LiveEnds
pub mod LiveNodes
pub mod TakenHeads
pub mod UpOnce
pub mod FirstTexts
