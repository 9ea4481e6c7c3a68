pub mod InProxyExpects
pub mod ClientExpects
pub mod OutProxyExpects
pub mod Asked
