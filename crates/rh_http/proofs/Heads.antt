pub mod Finds
pub mod Meets
pub mod Rows
pub mod HeadLemmas
pub mod StepLemmas
pub mod EndLemmas
pub mod Judged
pub mod Computed
