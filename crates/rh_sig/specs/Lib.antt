pub mod Cookies
pub mod Names
pub mod Values
pub mod Reading
pub mod Looking
pub mod Naming
pub mod Written
pub mod Numerals
