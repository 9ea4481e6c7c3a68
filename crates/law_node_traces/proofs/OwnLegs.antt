pub mod Ends
pub mod LegKinds
pub mod InLegs
pub mod Amiss
pub mod Fed
