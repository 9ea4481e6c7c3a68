pub mod Few
pub mod Filled
pub mod Keeping
pub mod Numbered
pub mod Oldest
pub mod Taken
