-- what the messages of a leg say of the receive window of the hop there (MS-RPCH 3.2): the bytes of
-- RPC PDUs that were sent, and up to where their sender was told that it may send
use Rattle.std.specs.Prelude.{◌≡◌, ℕ, ◌+◌, ◌-◌, ◌<◌, ◌≤◌, ◌⊎◌, max, List, [], ◌∷◌, length, Err}
use Rattle.std.specs.List.{AllByRecursion}
use Rattle.rh_window.specs.declared.range.TheConstants.{GREATEST_WINDOW}
use Rattle.rh_sig.specs.declared.named.Named.{Named}
use Rattle.rh_sig.specs.declared.named.Named.TheVariants.{ConnA2, ConnB3, InR1B2, OutR1A4, Ack}
use Rattle.rh_line.specs.declared.leg.Leg.{Leg}
use Rattle.rh_line.specs.declared.leg.LegKind.TheVariants.{InServer, OutServer}
use Rattle.rh_shell.specs.declared.answers.Count.{Count}
use Rattle.rh_shell.specs.declared.answers.Refused.TheVariants as refused
use Rattle.rh_shell.specs.Rules.{Message, Text, Pdu, Packet, Row, Rules}
use Rattle.law_moves.specs.Moves.{Passage}
use Rattle.law_moves.specs.Wires.{of_leg}

-- the leg of such a hop
abbrev pub is_leg : ℕ → Leg
is_leg n = record { kind = InServer; number = n }

abbrev pub os_leg : ℕ → Leg
os_leg n = record { kind = OutServer; number = n }

-- the bytes of the RPC PDUs; RTS PDUs don't count
abbrev pub pdu_bytes : List Message → ℕ
pdu_bytes [] = 0
pdu_bytes (Text bytes ∷ messages) = pdu_bytes messages
pdu_bytes (Pdu pdu ∷ messages) = length pdu + pdu_bytes messages
pdu_bytes (Packet named ∷ messages) = pdu_bytes messages

-- up to where a packet tells that may be sent: the receiver's window where it opens the hop between
-- a proxy and the server, and the end of the room that an acknowledgement tells
abbrev pub edge_told : Named → ℕ
edge_told (ConnA2 version connection channel lifetime window) = window
edge_told (ConnB3 window version) = window
edge_told (InR1B2 window) = window
edge_told (OutR1A4 version connection predecessor successor lifetime window timeout) = window
edge_told (Ack received available channel) = received + available
edge_told packet = 0

abbrev pub edge_in : Message → ℕ
edge_in (Text bytes) = 0
edge_in (Pdu pdu) = 0
edge_in (Packet named) = edge_told named

-- the greatest of these
abbrev pub greatest_edge : List Message → ℕ
greatest_edge [] = 0
greatest_edge (message ∷ messages) = max (edge_in message) (greatest_edge messages)

-- ---- the side that sends

-- an acknowledgement of more than was sent, or of too great a window
abbrev pub IsFalseAck : ℕ → Named → Type 0
IsFalseAck sent (Ack received available channel) =
    (sent < received) ⊎ (GREATEST_WINDOW < available)
IsFalseAck sent packet = ⊥

-- a packet that a row refuses as out of range is one
abbrev pub RefusesFalseAcks : ℕ → Named → Row → Type 0
RefusesFalseAcks sent named (Err (refused.OutOfRange command value)) = IsFalseAck sent named
RefusesFalseAcks sent named row = Unit {0}

-- a role that sends on a leg sent no more than it was told, and refuses an acknowledgement only
-- where it is false; it expects no PDU there
pub record SendsWithin {S : Type 0} (rules : Rules S) (leg : Leg) (p : Passage S) : Type 0 where
  pub within : pdu_bytes (of_leg leg p.put) ≤ greatest_edge (of_leg leg p.came)
  pub refuses : (count : Count) (named : Named)
      → RefusesFalseAcks (pdu_bytes (of_leg leg p.put)) named
      (rules.packet p.role leg count named).1
  pub pdus : (count : Count) (pdu : List ℕ)
      → (rules.pdu p.role leg count pdu).1 ≡ Err refused.Unexpected

-- ---- the side that receives

-- an acknowledgement of what came, and of a window that is none too great
abbrev pub IsTrueAck : ℕ → Message → Type 0
IsTrueAck came (Packet (Ack received available channel)) =
    (received ≤ came) × (available ≤ GREATEST_WINDOW)
IsTrueAck came message = Unit {0}

-- a PDU that a row refuses for the window ends behind the edge
abbrev pub RefusesBehind : ℕ → ℕ → Row → Type 0
RefusesBehind edge reached (Err (refused.Window exceeded)) = edge < reached
RefusesBehind edge reached row = Unit {0}

-- not for a window
abbrev pub IsNoWindow : Row → Type 0
IsNoWindow (Err (refused.Window exceeded)) = ⊥
IsNoWindow row = Unit {0}

-- a role that receives on a leg refuses a PDU for its window only where that ends behind all that
-- it told, and no packet; and it tells the truth
pub record ReceivesWithin {S : Type 0} (rules : Rules S) (leg : Leg) (p : Passage S) : Type 0 where
  pub refuses : (count : Count) (pdu : List ℕ)
      → RefusesBehind (greatest_edge (of_leg leg p.put))
      (pdu_bytes (of_leg leg p.came) + length pdu) (rules.pdu p.role leg count pdu).1
  pub packets : (count : Count) (named : Named)
      → IsNoWindow (rules.packet p.role leg count named).1
  pub acks : AllByRecursion (IsTrueAck (pdu_bytes (of_leg leg p.came))) (of_leg leg p.put)

-- it holds no more than came; and all that it told is within a window of this size, which begins
-- behind what it passed on: behind what came and is not held
pub record HasRoom (size holds : ℕ) (came put : List Message) : Type 0 where
  pub held : holds ≤ pdu_bytes came
  pub told : greatest_edge put ≤ (pdu_bytes came - holds) + size

abbrev pub HasRoomOn : {S : Type 0} → ℕ → (S → ℕ) → Leg → Passage S → Type 0
HasRoomOn size held leg p =
    HasRoom size (held p.role) (of_leg leg p.came) (of_leg leg p.put)
