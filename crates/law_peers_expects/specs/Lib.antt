pub mod InProxyExpects
pub mod OutProxyExpects
pub mod Asked
