pub mod Spans
pub mod Ready
pub mod Phases
pub mod PhasePuts
pub mod Logs
pub mod Passed
mod Answered
mod Search
mod Fronts
mod Channels
pub mod Lists
pub mod Told
pub mod Fitting
mod Between
mod Cuts
mod Ends
mod Gates
mod Messages
mod Numbers
mod Opened
mod Stretches
pub mod Answering
pub mod ServerFull
