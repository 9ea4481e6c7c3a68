mod Naming
mod Speaking
pub mod Standing
pub mod Telling
pub mod Recorded
pub mod Causes
pub mod Made
pub mod Reporting
