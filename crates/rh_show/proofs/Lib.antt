mod Ascii
mod FirstBytes
pub mod Shows
pub mod Telling
