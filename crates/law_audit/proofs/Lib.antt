pub mod Chains
pub mod Streams
pub mod FarAndNear
pub mod Carrying
pub mod RoleViews
