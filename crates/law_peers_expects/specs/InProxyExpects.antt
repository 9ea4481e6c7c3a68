pub mod Announcing
pub mod Expected
