pub mod Fronts
pub mod Rounding
