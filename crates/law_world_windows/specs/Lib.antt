pub mod Hops
pub mod Known
pub mod Holding
pub mod Refusing
pub mod ClientHops
pub mod Windowed
pub mod KeptAfar
pub mod KeptHops
