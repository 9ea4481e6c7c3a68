pub mod Results
pub mod Coming
pub mod Gathering
mod Writing
