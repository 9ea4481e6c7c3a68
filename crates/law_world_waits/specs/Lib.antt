pub mod HeldUp
pub mod HeldUpWorlds
pub mod Puts
pub mod Waits
pub mod Recordings
