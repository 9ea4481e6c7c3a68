pub mod Moments
pub mod Expecting
pub mod GoingRound
