mod Agreeing
mod Finished
mod AllCame
mod Facts
mod Marked
mod ServerEnds
mod Ended
