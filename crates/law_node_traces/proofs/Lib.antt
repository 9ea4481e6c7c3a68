pub mod Vocabulary
pub mod Traced
mod LetGo
pub mod OwnLegs
