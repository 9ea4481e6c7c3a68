pub mod Picks
pub mod InProxies
pub mod OutProxies
pub mod Clients
pub mod Servers
