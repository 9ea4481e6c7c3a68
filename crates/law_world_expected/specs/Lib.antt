pub mod Roles
pub mod Known
pub mod PdusInWorlds
pub mod Amiss
pub mod Roomy
pub mod PdusInRecordings
