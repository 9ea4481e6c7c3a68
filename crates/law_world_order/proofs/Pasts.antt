mod Lists
pub mod Legal
mod Once
pub mod Family
mod Made
mod Joins
pub mod Pasts
pub mod Moments
