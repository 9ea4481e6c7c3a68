pub mod Numbered
pub mod Flights
pub mod Counts
pub mod Wires
pub mod Legs
pub mod Readers
