mod Commas
mod Each
mod Joining
mod Naming
mod Numbering
mod Endings
mod Tellings
