pub mod Rings
pub mod Grown
pub mod Keeping
