pub mod Legible
pub mod Reading
