pub mod Connecting
pub mod Expected
