pub mod Counting
pub mod Replacing
pub mod Opening
pub mod Answering
pub mod BeforeC1
