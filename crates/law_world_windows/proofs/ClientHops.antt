pub mod Roles
pub mod Routes
pub mod Refusing
pub mod Honest
pub mod Stops
pub mod Moments
pub mod Closing
pub mod Joining
mod Kept
pub mod KeptMoments
