pub mod Streams
pub mod Crossing
pub mod Rising
pub mod Known
pub mod Left
pub mod Next
pub mod Expects
pub mod ByCases
