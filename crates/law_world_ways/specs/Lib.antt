pub mod EndsInTime
pub mod LiveIntakes
pub mod OnPaths
pub mod ExactWays
pub mod ExactPaths
pub mod DirectWays
pub mod ToldWays
pub mod ToldExactly
