pub mod Cookies
pub mod Refusing
