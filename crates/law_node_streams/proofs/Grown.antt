pub mod Based
pub mod Nodes
pub mod Ends
pub mod Walks
