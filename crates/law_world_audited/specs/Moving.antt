pub mod Moved
pub mod Tagged
pub mod Fed
pub mod ToldMoves
pub mod Sent
pub mod Streams
