pub mod RequestLengths
