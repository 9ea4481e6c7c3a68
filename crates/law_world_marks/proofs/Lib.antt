mod EndRound
mod Marked
mod OverUpwards
mod GoneQuietly
mod Unclosing
