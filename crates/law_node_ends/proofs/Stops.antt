pub mod Silent
pub mod Stays
pub mod ClientStays
pub mod ServerStays
