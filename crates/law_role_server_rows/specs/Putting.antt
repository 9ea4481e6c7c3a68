pub mod Puts
pub mod Copying
pub mod Greeting
