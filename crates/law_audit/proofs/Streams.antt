pub mod Splits
pub mod HeadFronts
pub mod FrameFronts
pub mod FineTexts
pub mod Messages
pub mod NoBytes
