mod Logs
pub mod InGreeting
mod Turns
mod Fronts
pub mod NotEarly
pub mod Ordered
pub mod Expecting
pub mod Zeros
