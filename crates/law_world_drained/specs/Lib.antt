pub mod Drained
pub mod Left
