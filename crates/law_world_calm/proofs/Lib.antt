pub mod CalmAnswers
mod LongTimes
mod Silences
pub mod FinishedLegs
pub mod Steps
pub mod NoBreaks
mod Recorded
