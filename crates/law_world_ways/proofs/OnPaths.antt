pub mod KeptEnds
pub mod KeptLegs
pub mod Forgotten
pub mod DrawnFlows
pub mod Legs
mod Ends
pub mod Used
mod AtEnds
mod Carriages
pub mod OnPath
mod Down
mod ReadBy
mod Up
pub mod Worlds
pub mod InUse
pub mod Recorded
