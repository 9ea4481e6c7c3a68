pub mod Shows
pub mod Licences
pub mod Recordings
pub mod Reports
pub mod Silences
