pub mod TaleLaws
