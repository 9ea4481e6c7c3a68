pub mod Cookies
pub mod Telling
pub mod Places
pub mod Closings
pub mod Company
