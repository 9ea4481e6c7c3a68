pub mod Since
pub mod Until
pub mod Allowed
pub mod Before
pub mod OnTheWay
pub mod Sums
pub mod Following
pub mod OneMore
