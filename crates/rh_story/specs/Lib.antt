pub mod Streams
pub mod Rounds
pub mod Items
pub mod Brief
pub mod Stories
pub mod Tale
