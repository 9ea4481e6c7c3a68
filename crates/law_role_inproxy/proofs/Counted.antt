pub mod InProxyOwes
pub mod InProxyPays
mod InProxyOnce
mod InProxyFollows
pub mod InProxyLeaves
pub mod InProxyLaws
