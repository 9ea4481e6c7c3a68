pub mod Legs
mod Windows
mod Sent
pub mod OutProxySends
