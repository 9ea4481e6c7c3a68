mod PutPieces
mod HeadTexts
mod Scans
mod Framed
mod Steps
pub mod Hearings
mod FilledRooms
pub mod Draws
mod Places
mod Passed
pub mod Kept
