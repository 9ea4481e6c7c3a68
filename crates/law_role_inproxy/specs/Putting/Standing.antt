-- what stands on the is leg of an in proxy only behind what came, and what nothing stands behind
-- (MS-RPCH 3.2.1, 3.2.3; the end is this profile's)
use Rattle.std.specs.Prelude.{ℕ, ◌≤◌, ◌+◌, List, [], ◌∷◌, Bool, true, false}
use Rattle.std.specs.List.{AllByRecursion}
use Rattle.rh_sig.specs.declared.named.Named.{Named}
use Rattle.rh_sig.specs.declared.named.Named.TheVariants.{ConnB3, InR1B2, EndA2}
use Rattle.rh_shell.specs.Rules.{Message, Text, Pdu, Packet}
use Rattle.rh_inproxy.specs.declared.state.InProxyConfig.{InProxyConfig}
use Rattle.rh_inproxy.specs.State.{InProxy}
use Rattle.law_moves.specs.Moves.{Passage}
use Rattle.law_moves.specs.Wires.{of_leg}
use Rattle.law_moves.specs.Passages.Passing.{count_of}
use Rattle.law_role_inproxy.specs.Putting.Puts.{is_leg, HasPdu}

-- ---- the window of the server

-- CONN/B3 and IN_R1/B2, by which it tells it
abbrev pub is_conn_b3 : Named → Bool
is_conn_b3 (ConnB3 window version) = true
is_conn_b3 packet = false

abbrev pub is_in_r1_b2 : Named → Bool
is_in_r1_b2 (InR1B2 window) = true
is_in_r1_b2 packet = false

-- an RPC PDU stands on the is leg only where CONN/B3 or IN_R1/B2 came there
abbrev pub SendsWhereTold : InProxyConfig → Passage InProxy → Type 0
SendsWhereTold config p =
    (pdu : List ℕ) → HasPdu pdu (of_leg (is_leg config.number) p.put)
    → 1 ≤ count_of is_conn_b3 (of_leg (is_leg config.number) p.came)
    + count_of is_in_r1_b2 (of_leg (is_leg config.number) p.came)

-- ---- the end

-- neither an RPC PDU nor END/A2
abbrev pub MayFollowEnd : Message → Type 0
MayFollowEnd (Text bytes) = Unit {0}
MayFollowEnd (Pdu pdu) = ⊥
MayFollowEnd (Packet EndA2) = ⊥
MayFollowEnd (Packet packet) = Unit {0}

-- behind the first END/A2 stands neither
abbrev pub EndsLast : List Message → Type 0
EndsLast [] = Unit {0}
EndsLast (Packet EndA2 ∷ messages) = AllByRecursion MayFollowEnd messages
EndsLast (message ∷ messages) = EndsLast messages
