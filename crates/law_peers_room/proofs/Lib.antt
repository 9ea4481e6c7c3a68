pub mod OutRoom
pub mod InRoom
pub mod ServerRoom
