mod Goes
pub mod Turns
mod ServerRows
pub mod ToServer
mod Forms
mod Standing
mod ClientRows
mod ClientPuts
pub mod ToClient
