pub mod ResponseTexts
