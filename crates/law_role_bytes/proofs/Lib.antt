pub mod Steps
pub mod Windows
pub mod Items
mod InSends
mod OutReceives
mod OutSends
mod InReceives
mod InKnown
mod ServerReceives
mod ServerKnown
mod ServerSends
