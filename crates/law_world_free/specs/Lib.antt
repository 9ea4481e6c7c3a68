pub mod AtOne
pub mod Drained
pub mod Free
