pub mod OwnHeads
pub mod Named
pub mod Framed
pub mod Expecting
