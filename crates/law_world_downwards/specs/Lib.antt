pub mod Over
pub mod Drawing
