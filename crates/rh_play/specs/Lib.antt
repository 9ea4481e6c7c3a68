pub mod Nodes
pub mod Players
