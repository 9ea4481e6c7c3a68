pub mod Headers
mod Puts
pub mod Cuts
pub mod Framing
mod Feeds
pub mod Fed
mod Pieces
mod OneAnswer
pub mod Pdus
