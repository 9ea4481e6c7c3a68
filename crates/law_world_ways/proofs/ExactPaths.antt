mod Fronts
mod Told
mod Left
mod Grown
mod Fates
mod Streams
mod Finished
mod Marks
mod Drawn
mod Later
mod Shelves
mod Receivers
mod ServerStays
mod Puts
pub mod AtFronts
mod Clients
mod Unlost
pub mod DownLegs
pub mod UpLegs
pub mod OverUp
pub mod Recorded
