pub mod Counts
pub mod Bytes
pub mod Memory
pub mod Whole
pub mod Laws
