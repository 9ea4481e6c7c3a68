pub mod Texts
pub mod Whole
pub mod Put
