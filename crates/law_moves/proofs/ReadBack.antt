mod Parting
pub mod Taking
mod Frames
mod WholeTexts
pub mod Puts
pub mod Seen
mod Lines
pub mod Written
pub mod Heads
pub mod Fine
pub mod PutsWell
pub mod NoTexts
