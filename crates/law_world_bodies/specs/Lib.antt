pub mod Bodies
pub mod Behind
