pub mod Order
pub mod Legible
pub mod Counted
pub mod Refusing
pub mod Putting
