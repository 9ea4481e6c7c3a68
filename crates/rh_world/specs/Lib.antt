pub mod Config
pub mod Hosts
pub mod Roles
pub mod Any
pub mod Direct
pub mod Pieces
pub mod Carrying
pub mod Numerals
