pub mod Heard
pub mod ClosedClients
pub mod Drawn
pub mod Refusals
mod Unreached
mod Unavailables
pub mod Fronts
pub mod Lost
pub mod Moments
pub mod Losses
pub mod Reporting
