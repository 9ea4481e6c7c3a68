pub mod Ends
pub mod Premises
pub mod Recordings
pub mod Counted
pub mod Final
pub mod Sides
pub mod LastLines
