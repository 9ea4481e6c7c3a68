pub mod Handed
pub mod StillLate
