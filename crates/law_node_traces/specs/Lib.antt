pub mod Traced
pub mod LetGo
pub mod OwnLegs
