pub mod Fitting
pub mod Rows
pub mod Full
pub mod Closing
