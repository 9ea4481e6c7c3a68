pub mod Sides
pub mod Sending
pub mod Receiving
pub mod Hops
pub mod Numerals
