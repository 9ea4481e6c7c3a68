pub mod Putting
pub mod Refusing
pub mod InTurn
