pub mod UntilClosing
pub mod Ordering
pub mod Recorded
pub mod Passing
mod GivesAndTakes
mod Counting
pub mod Capping
pub mod ToldToClose
pub mod Final
pub mod FinalRecordings
pub mod Sides
pub mod LastLines
