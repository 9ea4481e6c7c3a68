pub mod AtOne
pub mod Hops
pub mod Acks
pub mod Ends
pub mod Margins
