-- what a sender knows of the receive window of its hop (MS-RPCH 3.2)
use Rattle.std.specs.Prelude.{◌≡◌, ◌+◌, ◌≤◌, ℕ, List, true}
use Rattle.std.specs.List.{AllByRecursion}
use Rattle.rh_sig.specs.declared.named.Named.{Named}
use Rattle.rh_sig.specs.declared.named.Named.TheVariants.{Ack, ConnA2, ConnB3, InR1B2, OutR1A4}
use Rattle.rh_line.specs.declared.leg.LegKind.TheVariants.{InServer}
use Rattle.rh_shell.specs.Rules.{Message, Text, Pdu, Packet}
use Rattle.rh_shell.specs.Shells.{is_of}
use Rattle.rh_inproxy.specs.State.{InProxy}
use Rattle.law_moves.specs.Moves.{OnLeg}

-- up to where a packet between a proxy and the server tells its receiver that it may send: the
-- window of whoever put it, and the end of the room that an acknowledgement tells
abbrev pub edge_told : Named → ℕ
edge_told (ConnA2 version connection channel lifetime window) = window
edge_told (OutR1A4 version connection predecessor successor lifetime window timeout) = window
edge_told (ConnB3 window version) = window
edge_told (InR1B2 window) = window
edge_told (Ack received available channel) = received + available
edge_told packet = 0

-- by what packets tell, the sender may send as far
abbrev pub IsWithin : (Named → ℕ) → ℕ → Message → Type 0
IsWithin told edge (Text bytes) = Unit {0}
IsWithin told edge (Pdu pdu) = Unit {0}
IsWithin told edge (Packet named) = told named ≤ edge

-- of what came on is legs
abbrev pub IsKnownOn : ℕ → OnLeg → Type 0
IsKnownOn edge one = is_of InServer one.0 ≡ true → IsWithin edge_told edge one.1

-- so it is of each packet: the edge up to which the proxy sends is none below any that it was told
abbrev pub KnowsEdges : InProxy → List OnLeg → Type 0
KnowsEdges s came = AllByRecursion (IsKnownOn s.window.edge) came
