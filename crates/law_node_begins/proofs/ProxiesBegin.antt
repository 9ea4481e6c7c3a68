mod Legs
mod Turning
pub mod Echoes
pub mod InGoes
mod InTurns
mod InReached
pub mod InLaws
mod OutGoes
mod OutTurns
mod OutRole
mod OutPuts
mod OutMoves
pub mod OutLaws
