pub mod Fronts
pub mod Items
