pub mod Order
pub mod Legible
pub mod Sending
pub mod Receiving
pub mod Counted
