-- how many IN channels a server answers while an acknowledgement waits (MS-RPCH 3.2.1)
use Rattle.std.specs.Prelude.{ℕ, ◌+◌, ◌*◌, ◌≤◌, ◌++◌, ◌∷◌, [], List, length}
use Rattle.rh_sig.specs.declared.lengths.TheConstants.{ACK_TO_LEN}
use Rattle.rh_server.specs.States.{Server}
use Rattle.law_moves.specs.Moves.{EndMove, Passage}
use Rattle.law_peers_moments.specs.GoingRound.{taken_in}
use Rattle.law_role_server_in.specs.Handovers.{passed}
use Rattle.law_peers_room.specs.ServerRoom.Overtaking.{AreLong, ack_room}
use Rattle.law_peers_forwarding.specs.ServerFull.Oldest.{Oldest}
pub use Rattle.law_peers_forwarding.specs.ServerFull.Oldest.{due_in}

-- behind the move behind which the one waited that waits longest
abbrev pub behind_oldest : (window : ℕ) (moves : List EndMove) → Oldest window moves
    → Passage Server
behind_oldest window moves oldest = passed window (oldest.front ++ oldest.move ∷ [])

-- no more are put than the one that was due there, and eleven
abbrev pub FewAreTaken : ℕ → List EndMove → Type 0
FewAreTaken window moves =
    (oldest : Oldest window moves) (least : ℕ) → AreLong least (passed window moves).came
    → ACK_TO_LEN * length (behind_oldest window moves oldest).role.waiting.due + ack_room ≤ least
    → due_in (behind_oldest window moves oldest).role ≤ 1
    → taken_in (passed window moves)
    ≤ taken_in (behind_oldest window moves oldest)
    + due_in (behind_oldest window moves oldest).role + 11
