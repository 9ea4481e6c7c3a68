mod Table
mod HexDigits
pub mod HexReading
mod Decimals
pub mod Appending
pub mod Texts
