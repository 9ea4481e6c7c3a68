pub mod Passing
pub mod Rising
pub mod Counted
