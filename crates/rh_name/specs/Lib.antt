pub mod Words
pub mod Fields
pub mod Pdus
pub mod Telling
pub mod Lines
pub mod Readings
