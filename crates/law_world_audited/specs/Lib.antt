pub mod Sides
pub mod Moving
pub mod LegsInChains
pub mod FarLegsUp
pub mod FarLegsDown
pub mod WholeAudits
