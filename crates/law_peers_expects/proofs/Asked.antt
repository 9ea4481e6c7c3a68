mod EchoTexts
pub mod Standing
pub mod Serving
pub mod Served
pub mod Requests
mod Ahead
pub mod Expecting
