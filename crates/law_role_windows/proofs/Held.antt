pub mod Lines
pub mod Roles
pub mod ClientLine
pub mod InProxyLine
pub mod OutProxyLine
pub mod ServerLine
