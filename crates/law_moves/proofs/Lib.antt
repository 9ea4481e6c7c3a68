pub mod Lemmas
pub mod Vocabulary
mod ClosedNodes
mod Merges
pub mod Leading
mod Takings
mod TakenPieces
pub mod Puttings
mod Following
mod EndFollowing
mod Cuttings
mod RoomCuts
mod OnWires
pub mod Legible
pub mod Passages
pub mod Chains
pub mod PacketKinds
pub mod ReadBack
