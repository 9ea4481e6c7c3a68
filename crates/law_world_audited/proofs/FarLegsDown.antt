pub mod ServerSends
pub mod DownRoute
pub mod DownSides
pub mod DownYes
