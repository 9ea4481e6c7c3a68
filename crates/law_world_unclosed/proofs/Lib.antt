pub mod Changing
pub mod Untold
pub mod CalmLines
pub mod Until
pub mod Going
pub mod Along
pub mod Recorded
