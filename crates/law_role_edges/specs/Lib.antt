pub mod Edges
pub mod OutProxies
pub mod Passing
pub mod ClientWindows
pub mod Forwarding
pub mod Openings
