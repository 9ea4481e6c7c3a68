pub mod Counting
pub mod Replacing
pub mod Opening
pub mod Naming
