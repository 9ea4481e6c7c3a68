mod MarksPut
pub mod EndsInTime
mod LiveIntakes
pub mod OnPaths
pub mod ExactWays
mod ExactPaths
mod DirectKept
mod OnToldWays
