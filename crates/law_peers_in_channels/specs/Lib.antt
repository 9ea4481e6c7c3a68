pub mod ServerExpects
pub mod InChannels
pub mod InSuccessors
pub mod InHandovers
pub mod PdusInTurn
