pub mod Ways
