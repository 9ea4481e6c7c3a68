pub mod Putting
pub mod InTurn
pub mod Refusing
