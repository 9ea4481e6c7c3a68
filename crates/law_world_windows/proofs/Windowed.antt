pub mod ServerRows
pub mod InRows
pub mod OutRows
pub mod ClientRows
pub mod Exceeded
pub mod Closing
