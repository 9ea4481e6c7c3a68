pub mod Vocabulary
pub mod Numbered
pub mod Gives
pub mod InSpots
pub mod TakesKept
mod TakesQuiet
pub mod TakesRows
mod TakesLegs
mod TakesOpens
pub mod Takes
pub mod Each
mod Putable
mod Telling
mod Sounds
mod SoundRows
mod SoundPuts
mod PutsReadBack
pub mod Counted
