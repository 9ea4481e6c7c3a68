mod Channels
mod Keeping
mod Putting
mod Rows
pub mod Ends
pub mod Why
