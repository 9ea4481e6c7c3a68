-- on which of its IN channels a client writes, and where its messages stand (MS-RPCH 2.2.4, 3.2.2;
-- successors are this profile's)
use Rattle.std.specs.Prelude.{ℕ, suc, ◌≡◌, ◌⊎◌, List, [], ◌∷◌, Bool, true, false}
use Rattle.rh_sig.specs.declared.named.Named.{Named}
use Rattle.rh_sig.specs.declared.named.Named.TheVariants.{ConnA1, ConnB1, InR1A1, InR1A5, OutR1A3, OutR1A7, OutR2C1, EndA1, AckTo, Ping}
use Rattle.rh_line.specs.declared.leg.Leg.{Leg}
use Rattle.rh_line.specs.declared.leg.LegKind.TheVariants.{ClientOut}
use Rattle.rh_shell.specs.Rules.{Message, Text, Pdu, Packet}
use Rattle.rh_client.specs.State.{ci}
use Rattle.law_moves.specs.Moves.{OnLeg}

-- ---- whose turn it is

-- the IN channel that is written on, whether END/A1 stands on it, and whether one stands on any
pub record Turn : Type 0 where
  pub writing : ℕ
  pub ended : Bool
  pub over : Bool

abbrev pub first_turn : Turn
first_turn = record { writing = 1; ended = false; over = false }

-- behind IN_R1/A5 the next channel is written on
abbrev pub behind : Turn → Message → Turn
behind t (Text bytes) = t
behind t (Pdu pdu) = t
behind t (Packet (InR1A5 successor)) =
    record { writing = suc t.writing; ended = false; over = t.over }
behind t (Packet EndA1) = record { writing = t.writing; ended = true; over = true }
behind t (Packet packet) = t

abbrev pub behind_all : Turn → List OnLeg → Turn
behind_all t [] = t
behind_all t (one ∷ log) = behind_all (behind t one.1) log

-- ---- where a message stands

-- on the channel that is written on, or on its successor
abbrev pub IsNear : Turn → Leg → Type 0
IsNear t leg = (leg ≡ ci t.writing) ⊎ (leg ≡ ci (suc t.writing))

-- CONN/B1, IN_R1/A5, OUT_R1/A7, END/A1 and acknowledgements stand on the channel that is written
-- on, END/A1 once; IN_R1/A1 on its successor; Pings on either; and CONN/A1, OUT_R1/A3 and OUT_R2/C1
-- on co legs (MS-RPCH 2.2.4)
abbrev pub PacketStands : Turn → Leg → Named → Type 0
PacketStands t leg (ConnB1 version connection channel lifetime keepalive group) =
    leg ≡ ci t.writing
PacketStands t leg (InR1A1 version connection predecessor successor) = leg ≡ ci (suc t.writing)
PacketStands t leg (InR1A5 successor) = leg ≡ ci t.writing
PacketStands t leg (OutR1A7 to successor) = leg ≡ ci t.writing
PacketStands t leg EndA1 = (leg ≡ ci t.writing) × (t.ended ≡ false)
PacketStands t leg (AckTo to received available channel) = leg ≡ ci t.writing
PacketStands t leg Ping = IsNear t leg
PacketStands t leg (ConnA1 version connection channel window) = leg.kind ≡ ClientOut
PacketStands t leg (OutR1A3 version connection predecessor successor window) =
    leg.kind ≡ ClientOut
PacketStands t leg OutR2C1 = leg.kind ≡ ClientOut
PacketStands t leg packet = ⊥

-- RPC PDUs stand on the channel that is written on, behind no END/A1; and texts, which are
-- requests, on that one, on its successor, and on co legs
abbrev pub Stands : Turn → OnLeg → Type 0
Stands t (leg, Text bytes) = IsNear t leg ⊎ (leg.kind ≡ ClientOut)
Stands t (leg, Pdu pdu) = (leg ≡ ci t.writing) × (t.over ≡ false)
Stands t (leg, Packet packet) = PacketStands t leg packet

-- ---- the law

-- each message stands where it does by those that were put before it
abbrev pub StandFrom : Turn → List OnLeg → Type 0
StandFrom t [] = Unit {0}
StandFrom t (one ∷ log) = Stands t one × StandFrom (behind t one.1) log

abbrev pub WritesInTurn : List OnLeg → Type 0
WritesInTurn put = StandFrom first_turn put
