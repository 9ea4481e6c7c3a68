pub mod Events
pub mod Order
