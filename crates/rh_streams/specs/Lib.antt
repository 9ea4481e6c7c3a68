pub mod Takers
pub mod Givers
