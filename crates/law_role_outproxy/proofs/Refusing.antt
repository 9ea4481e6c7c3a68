mod Told
mod RowsKeep
mod MovesKeep
pub mod Refusals
mod OneCookie
mod Cookies
pub mod Law
