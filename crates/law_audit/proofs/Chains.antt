pub mod Lines
pub mod Among
pub mod InOrder
pub mod NoneLeft
