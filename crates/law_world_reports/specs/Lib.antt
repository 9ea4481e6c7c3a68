pub mod Telling
pub mod Bounded
pub mod Closed
pub mod Naming
pub mod Ordering
pub mod CloseLines
pub mod ToldHistories
pub mod Throughout
