pub mod Pdus
pub mod Keeping
pub mod Unlost
