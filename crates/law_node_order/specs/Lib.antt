pub mod Feeds
pub mod Reaching
pub mod Streams
pub mod Sides
