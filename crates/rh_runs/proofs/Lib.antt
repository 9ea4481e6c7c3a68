mod Own
pub mod Running
mod Standing
