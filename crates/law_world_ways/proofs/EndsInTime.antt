pub mod Behind
pub mod Both
pub mod Goes
pub mod Losing
pub mod Rounds
pub mod EachLine
mod Told
pub mod ToldRecorded
pub mod Recorded
