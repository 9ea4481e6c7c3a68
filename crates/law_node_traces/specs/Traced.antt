pub mod Turns
pub mod Numbers
pub mod Cookies
pub mod Ours
pub mod Refusals
pub mod Recordings
