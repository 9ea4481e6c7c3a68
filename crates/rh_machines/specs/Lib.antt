pub mod HandingBack
pub mod Machines
