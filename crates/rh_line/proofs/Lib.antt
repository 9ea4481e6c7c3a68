pub mod Queues
pub mod Drawing
mod RingLaws
mod Channels
pub mod Orders
pub mod Sound
