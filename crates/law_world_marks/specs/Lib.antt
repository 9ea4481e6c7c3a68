pub mod GoingOn
pub mod WentRound
