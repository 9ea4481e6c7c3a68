-- no more acknowledgements to the client wait at a server than there are channels of which they can
-- be (MS-RPCH 3.2.1)
use Rattle.std.specs.Prelude.{ℕ, suc, ◌≡◌, ◌⊎◌, ◌≤◌, List, [], ◌∷◌, length}
use Rattle.rh_rts.specs.declared.command.Cookie.{Cookie}
use Rattle.rh_rts.specs.declared.command.TheConstants.{TO_CLIENT}
use Rattle.rh_sig.specs.declared.named.Named.TheVariants.{AckTo}
use Rattle.rh_shell.specs.Rules.{Packet}
use Rattle.law_moves.specs.Moves.{EndMove}
use Rattle.law_moves.specs.Wires.{of_leg}
use Rattle.law_moves.specs.ReadBack.Reading.{all_read_of}
use Rattle.law_role_inproxy.specs.Counted.{is_leg}
use Rattle.law_role_server.specs.Counted.Counting.{is_ack_to, waits_for}
use Rattle.law_peers_moments.specs.Expecting.{IsAhead}
use Rattle.law_peers_moments.specs.Moments.{Moves, Numbers, in_behind, server_behind}
use Rattle.law_peers_room.specs.ServerRoom.Overtaking.{is_ack_for}
use Rattle.law_peers_forwarding.specs.ServerFull.Numbered.{IsLate}
use Rattle.law_peers_forwarding.specs.ServerFull.Oldest.{Oldest}

abbrev pub IsAmong : ℕ → List ℕ → Type 0
IsAmong n [] = ⊥
IsAmong n (first ∷ others) = (n ≡ first) ⊎ IsAmong n others

-- where the late channels are among these: no more wait, and one less where one of another channel
-- stands next on an is leg
pub record NoMoreWait (numbers : Numbers) (reader : ℕ → ℕ) (moves : Moves) (front : List EndMove)
    : Type 0 where
  pub waiting : (channels : List ℕ)
      → ((channel : Cookie) (late : IsLate numbers reader moves front channel)
      → IsAmong late.number channels)
      → waits_for (is_ack_to TO_CLIENT) (server_behind numbers moves).passage.role ≤ length channels
  pub next : (channels : List ℕ)
      → ((channel : Cookie) (late : IsLate numbers reader moves front channel)
      → IsAmong late.number channels)
      → (n received window : ℕ) (channel : Cookie)
      → IsAhead (server_behind numbers moves).passage (is_leg n)
      (all_read_of (of_leg (is_leg n) (in_behind numbers moves n).put))
      (Packet (AckTo TO_CLIENT received window channel))
      → waits_for (is_ack_for channel) (server_behind numbers moves).passage.role ≡ 0
      → suc (waits_for (is_ack_to TO_CLIENT) (server_behind numbers moves).passage.role)
      ≤ length channels

-- by the move behind which the one waited that waits longest
abbrev pub FewWait : Numbers → (ℕ → ℕ) → Moves → Type 0
FewWait numbers reader moves =
    (oldest : Oldest numbers.window moves.server)
    → NoMoreWait numbers reader moves oldest.front
