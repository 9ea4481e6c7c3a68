pub mod Changes
pub mod Drawn
pub mod Histories
pub mod Closes
pub mod Carriages
pub mod Carried
pub mod Standing
