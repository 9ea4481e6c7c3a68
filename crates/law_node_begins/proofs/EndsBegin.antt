pub mod Stands
mod Moves
mod Fronts
mod KeptLegs
mod ServerRows
mod ServerPuts
pub mod ServerMoves
pub mod ClientFronts
mod ClientPuts
pub mod ClientMoves
pub mod ClientAsks
