pub mod Vocabulary
pub mod Telling
pub mod Bounded
pub mod Closed
mod Naming
pub mod Ordering
