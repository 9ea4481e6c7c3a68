pub mod EventMoves
mod InProxyTold
mod InProxyHanded
mod InProxyLasts
mod OutProxyHanded
mod ServerHanded
pub mod ServerLegs
pub mod ServerStays
mod ServerPuts
mod ServerLasts
mod ServerEvents
