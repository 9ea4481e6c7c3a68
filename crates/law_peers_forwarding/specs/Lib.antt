pub mod Passing
pub mod Late
pub mod Fits
pub mod Answering
pub mod ServerFull
