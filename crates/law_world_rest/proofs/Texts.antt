pub mod Having
pub mod Clients
pub mod Servers
pub mod InProxies
pub mod OutProxies
