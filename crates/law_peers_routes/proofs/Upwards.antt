pub mod Rising
mod Counts
mod Told
pub mod Unread
pub mod JoinedLegs
mod ServerLegs
mod ServerPuts
mod ServerMoves
mod InProxySteps
mod InProxyMoves
pub mod Laws
mod Passed
pub mod Numbered
