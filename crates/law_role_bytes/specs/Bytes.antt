-- what the windows of roles count, and the bytes of the RPC PDUs on their legs (MS-RPCH 3.2)
use Rattle.std.specs.Prelude.{◌≡◌, ◌≤◌, ℕ, List, false}
use Rattle.rh_window.specs.Sides.{Receiver, Sender}
use Rattle.rh_line.specs.declared.leg.Leg.{Leg}
use Rattle.rh_inproxy.specs.Opening.{is_unknown}
use Rattle.rh_inproxy.specs.State.{InProxy}
use Rattle.law_moves.specs.Moves.{OnLeg, Passage}
use Rattle.law_moves.specs.PacketKinds.{opens_server}
use Rattle.law_moves.specs.Passages.Passing.{count_of, pdu_bytes}
use Rattle.law_moves.specs.Wires.{of_leg}
use Rattle.law_role_inproxy.specs.Counted.{is_leg}

-- a window counts as sent exactly what was put on the leg
abbrev pub CountsPut : Leg → List OnLeg → Sender → Type 0
CountsPut leg put window = window.sent ≡ pdu_bytes (of_leg leg put)

-- and as received exactly what came there
abbrev pub CountsCame : Leg → List OnLeg → Receiver → Type 0
CountsCame leg came window = window.received ≡ pdu_bytes (of_leg leg came)

-- an in proxy knows of a window of the server only where CONN/B3 or IN_R1/B2 told one on the is leg
abbrev pub WasToldThere : ℕ → Passage InProxy → Type 0
WasToldThere n p =
    is_unknown p.role.edge ≡ false → 1 ≤ count_of opens_server (of_leg (is_leg n) p.came)
