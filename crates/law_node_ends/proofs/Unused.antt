pub mod Staying
pub mod OutProxyStays
mod Behind
pub mod ClientStays
pub mod InProxyStays
mod Places
mod ServerLists
pub mod ServerLegs
mod ServerRows
mod ServerPuts
pub mod ServerStays
