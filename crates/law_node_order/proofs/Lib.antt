pub mod Feeding
pub mod Reaching
pub mod Closing
pub mod Joining
pub mod Sides
pub mod Back
