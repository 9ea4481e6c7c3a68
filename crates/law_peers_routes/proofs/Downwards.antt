pub mod Sides
mod ClientNumbers
mod ClientLegs
pub mod Routing
