pub mod Order
pub mod Legible
pub mod Counted
