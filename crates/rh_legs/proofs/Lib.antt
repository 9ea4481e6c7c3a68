mod Replying
mod Calling
mod Counted
mod Reading
mod Writing
