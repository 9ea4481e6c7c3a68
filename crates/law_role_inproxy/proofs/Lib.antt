pub mod Vocabulary
mod OrderKeeps
pub mod OrderPuts
mod OrderMoves
pub mod LegibleKeeps
mod LegiblePuts
mod LegibleMoves
pub mod Counted
pub mod Refusing
pub mod Putting
