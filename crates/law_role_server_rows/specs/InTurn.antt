pub mod Channels
pub mod Acks
pub mod Numbers
pub mod Answers
