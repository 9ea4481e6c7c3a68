-- RPC PDUs on the is leg of an in proxy come behind the handovers of the IN channels before
-- (MS-RPCH 3.2.1, 3.2.3; successors are this profile's)
use Rattle.std.specs.Prelude.{ℕ, ◌<◌, ◌≤◌, List}
use Rattle.law_moves.specs.Wires.{of_leg}
use Rattle.law_role_inproxy.specs.Putting.Puts.{HasPdu, is_leg}
use Rattle.law_role_server.specs.Counted.Counting.{is_in_r1_a6}
use Rattle.law_peers_moments.specs.Moments.{Moves, Numbers, in_behind, server_behind}
use Rattle.law_role_server_in.specs.Refusing.{came_at}
use Rattle.law_peers_in_channels.specs.InChannels.{IsAnnouncedOn}

-- one stands on is leg m only where IN_R1/A6 came at the server on the leg of each channel before m
abbrev pub ComeBehindHandovers : Numbers → Moves → Type 0
ComeBehindHandovers numbers moves =
    (m : ℕ) (pdu : List ℕ) → HasPdu pdu (of_leg (is_leg m) (in_behind numbers moves m).put)
    → (channel leg : ℕ) → channel < m
    → IsAnnouncedOn (server_behind numbers moves).passage leg channel
    → 1 ≤ came_at is_in_r1_a6 (server_behind numbers moves).passage leg
