mod Frames
mod Telling
