mod Allowed
pub mod OutProxyPassed
mod InProxyKept
mod InProxyPuts
pub mod InProxyPassed
mod ServerLegs
mod ServerKept
mod ServerCame
mod ServerPuts
pub mod ServerPassed
