pub mod Splits
pub mod OnTurn
pub mod Reaching
pub mod Owned
pub mod Room
mod InView
pub mod Quiet
mod InLogs
pub mod InPlaces
pub mod InKept
pub mod InRows
mod InTakes
pub mod InPuts
pub mod InMoves
