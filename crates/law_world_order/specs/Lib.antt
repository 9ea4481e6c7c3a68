pub mod Flows
pub mod Premises
pub mod Directions
pub mod Turns
pub mod FirstTexts
pub mod CookiesLeft
pub mod Pasts
pub mod FinalTurns
