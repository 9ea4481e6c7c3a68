mod OutProxyOver
mod OutProxyKept
pub mod InProxyRows
mod InProxyHeld
mod InProxyOver
mod ByMoves
mod GoesOn
mod MarkingSame
mod NodesGoOn
mod ServerGoesOn
