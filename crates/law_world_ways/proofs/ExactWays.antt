mod Rests
pub mod Pdus
pub mod Ended
pub mod Stops
pub mod NodeKeeps
pub mod CameUp
pub mod ClientOver
pub mod HeadTexts
pub mod ReadBy
pub mod Passing
pub mod LegGoes
pub mod NoLoss
