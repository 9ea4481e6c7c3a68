pub mod GoingOn
pub mod Exact
pub mod Over
