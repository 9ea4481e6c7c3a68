mod Turns
pub mod Writing
pub mod Each
mod Copied
mod CopiedRows
pub mod CopiedPuts
mod Greets
mod GreetsOut
pub mod GreetsIn
