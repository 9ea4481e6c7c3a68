mod Legs
mod Waiting
mod Passing
pub mod Found
pub mod Sources
mod Lists
pub mod InProxyPasses
pub mod OutProxyPasses
mod ServerSounds
pub mod ServerPasses
mod InAcks
mod InChannels
mod InPdus
mod InRows
mod InPuts
mod InRefuses
pub mod InProxyTells
pub mod InProxyRoom
pub mod ClientRoom
