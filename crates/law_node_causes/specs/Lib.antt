pub mod Reasons
pub mod Closings
pub mod Once
pub mod Moments
pub mod Refusals
pub mod Numbers
pub mod Watching
