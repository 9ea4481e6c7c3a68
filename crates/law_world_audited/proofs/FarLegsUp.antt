pub mod Parts
pub mod UpRoute
pub mod UpSides
pub mod UpYes
