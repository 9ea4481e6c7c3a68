pub mod Callers
pub mod Faults
pub mod Keepers
pub mod Plans
