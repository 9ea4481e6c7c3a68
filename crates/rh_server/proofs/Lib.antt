pub mod Onces
mod Picks
