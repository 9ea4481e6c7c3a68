pub mod Streams
pub mod Grown
