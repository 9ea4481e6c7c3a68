pub mod Early
pub mod Premises
