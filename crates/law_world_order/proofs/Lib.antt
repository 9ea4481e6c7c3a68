pub mod Vocabulary
pub mod Legs
pub mod Fine
pub mod Heard
pub mod Joined
pub mod Distinct
pub mod Flowing
pub mod Starting
pub mod Legal
mod Reaching
mod Routing
pub mod Moments
mod Fronts
pub mod Marked
mod Kept
pub mod Recorded
pub mod FirstTexts
mod CookiesLeft
pub mod Pasts
mod Finality
