pub mod Taking
mod Dealing
mod Ones
