-- what a server puts on its legs: on which, and in which order (MS-RPCH 3.2.5; successors are this
-- profile's)
use Rattle.std.specs.Prelude.{ℕ, suc, ◌≡◌, ◌⊎◌, List, [], ◌∷◌, Bool, true, false}
use Rattle.rh_rts.specs.declared.command.TheConstants.{TO_OUT_PROXY}
use Rattle.rh_sig.specs.declared.named.Named.{Named}
use Rattle.rh_sig.specs.declared.named.Named.TheVariants.{ConnB3, ConnC1, InR1A3, InR1B1, InR1B2, InR2A3, OutR1A1, OutR1A5, OutR1A9, EndB1, Ack, AckTo}
use Rattle.rh_line.specs.declared.leg.Leg.{Leg}
use Rattle.rh_line.specs.declared.leg.LegKind.TheVariants.{OutServer, InServer}
use Rattle.rh_shell.specs.Hearing.{greeting}
use Rattle.rh_shell.specs.Rules.{Message, Text, Pdu, Packet}
use Rattle.law_moves.specs.Moves.{OnLeg}

-- ---- whose turn it is

-- the OUT channel that writes, whether END/B1 stands on it, and whether one stands on any
pub record Turn : Type 0 where
  pub writing : ℕ
  pub ended : Bool
  pub over : Bool

abbrev pub first_turn : Turn
first_turn = record { writing = 1; ended = false; over = false }

-- behind OUT_R1/A9 the next channel writes
abbrev pub behind : Turn → Message → Turn
behind t (Text bytes) = t
behind t (Pdu pdu) = t
behind t (Packet OutR1A9) = record { writing = suc t.writing; ended = false; over = t.over }
behind t (Packet EndB1) = record { writing = t.writing; ended = true; over = true }
behind t (Packet packet) = t

abbrev pub behind_all : Turn → List OnLeg → Turn
behind_all t [] = t
behind_all t (one ∷ log) = behind_all (behind t one.1) log

-- ---- where a message stands

abbrev pub os : ℕ → Leg
os n = record { kind = OutServer; number = n }

-- on is legs stand CONN/B3, IN_R1/B1, IN_R1/B2 and acknowledgements; on os legs acknowledgements
-- to out proxies; and all the rest on the channel that writes, END/B1 once (MS-RPCH 2.2.4)
abbrev pub PacketStands : Turn → Leg → Named → Type 0
PacketStands t leg (ConnB3 size version) = leg.kind ≡ InServer
PacketStands t leg InR1B1 = leg.kind ≡ InServer
PacketStands t leg (InR1B2 size) = leg.kind ≡ InServer
PacketStands t leg (Ack received window cookie) = leg.kind ≡ InServer
PacketStands t leg (AckTo to received window cookie) =
    (leg ≡ os t.writing) ⊎ ((to ≡ TO_OUT_PROXY) × (leg.kind ≡ OutServer))
PacketStands t leg (ConnC1 version window timeout) = leg ≡ os t.writing
PacketStands t leg (InR1A3 to version window timeout) = leg ≡ os t.writing
PacketStands t leg (InR2A3 to) = leg ≡ os t.writing
PacketStands t leg (OutR1A1 to) = leg ≡ os t.writing
PacketStands t leg (OutR1A5 to version timeout) = leg ≡ os t.writing
PacketStands t leg OutR1A9 = leg ≡ os t.writing
PacketStands t leg EndB1 = (leg ≡ os t.writing) × (t.ended ≡ false)
PacketStands t leg packet = ⊥

-- RPC PDUs stand there too, behind no END/B1; and a text is a greeting (profile)
abbrev pub Stands : Turn → OnLeg → Type 0
Stands t (leg, Text bytes) = bytes ≡ greeting
Stands t (leg, Pdu pdu) = (leg ≡ os t.writing) × (t.over ≡ false)
Stands t (leg, Packet packet) = PacketStands t leg packet

-- ---- the law

-- each message stands where it does by those that were put before it
abbrev pub StandFrom : Turn → List OnLeg → Type 0
StandFrom t [] = Unit {0}
StandFrom t (one ∷ log) = Stands t one × StandFrom (behind t one.1) log

abbrev pub WritesInTurn : List OnLeg → Type 0
WritesInTurn put = StandFrom first_turn put
