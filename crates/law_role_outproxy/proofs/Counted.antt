pub mod OutProxyOwes
mod OutProxyGains
pub mod OutProxyPays
pub mod OutProxyOnce
pub mod OutProxyNames
pub mod OutProxyLaws
