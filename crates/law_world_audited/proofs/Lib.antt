pub mod FaultsNone
pub mod LegsJoined
pub mod Moving
pub mod LegsInChains
pub mod FarLegsUp
pub mod FarLegsDown
pub mod YesRecorded
