pub mod Statuses
pub mod Forms
pub mod Numerals
pub mod Tellings
pub mod Making
pub mod Runs
