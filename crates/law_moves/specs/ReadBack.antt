pub mod Reading
pub mod Well
