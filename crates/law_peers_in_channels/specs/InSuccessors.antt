pub mod Connected
pub mod Successors
