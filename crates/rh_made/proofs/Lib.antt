pub mod Pdus
pub mod Standing
pub mod Tallies
