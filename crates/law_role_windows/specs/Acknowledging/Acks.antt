-- acknowledgements that pass other nodes: those of an in proxy go to the client by the server and
-- an out proxy, and those of the client to an out proxy by an in proxy and the server (MS-RPCH
-- 3.2.1)
use Rattle.std.specs.Prelude.{◌≡◌, ◌≤◌, ℕ, List}
use Rattle.std.specs.List.{AllByRecursion}
use Rattle.rh_window.specs.declared.range.TheConstants.{GREATEST_WINDOW}
use Rattle.rh_rts.specs.declared.command.Cookie.{Cookie}
use Rattle.rh_rts.specs.declared.command.TheConstants.{TO_CLIENT}
use Rattle.rh_sig.specs.declared.named.Named.{Named}
use Rattle.rh_sig.specs.declared.named.Named.TheVariants.{AckTo}
use Rattle.rh_line.specs.declared.leg.Leg.{Leg}
use Rattle.rh_line.specs.declared.leg.LegKind.{LegKind}
use Rattle.rh_line.specs.declared.leg.LegKind.TheVariants.{ClientIn}
use Rattle.rh_shell.specs.Rules.{Message, Text, Pdu, Packet}
use Rattle.law_moves.specs.Moves.{OnLeg, Passage}
use Rattle.law_moves.specs.Wires.{of_leg}
use Rattle.law_moves.specs.Passages.Passing.{pdu_bytes, HasOn, HasBegunIn}

-- ---- those that go on

-- where a message is a packet, that is so
abbrev pub OfPacket : (Named → Type 0) → OnLeg → Type 0
OfPacket Is (leg, Text bytes) = Unit {0}
OfPacket Is (leg, Pdu pdu) = Unit {0}
OfPacket Is (leg, Packet named) = Is named

-- an acknowledgement to this destination came on a leg of this kind, with the same values
abbrev pub IsPassedOn : LegKind → ℕ → List OnLeg → Named → Type 0
IsPassedOn kind to came (AckTo destination received available channel) =
    destination ≡ to → HasOn kind (AckTo destination received available channel) came
IsPassedOn kind to came packet = Unit {0}

-- a role makes no acknowledgement to this destination itself: it puts only what came there
abbrev pub PassesOn : {S : Type 0} → LegKind → ℕ → Passage S → Type 0
PassesOn kind to p = AllByRecursion (OfPacket (IsPassedOn kind to p.came)) p.put

-- ---- those that a receiver makes

-- the leg of a client's IN channels
abbrev pub ci_leg : ℕ → Leg
ci_leg n = record { kind = ClientIn; number = n }

-- a channel of this cookie began on the leg; the acknowledgement is of no more bytes than came
-- there, and its window is none too great (MS-RPCH 3.2.1)
pub record IsTrueOn (messages : List Message) (received available : ℕ) (cookie : Cookie)
    : Type 0 where
  pub begun : HasBegunIn cookie messages
  pub came : received ≤ pdu_bytes messages
  pub window : available ≤ GREATEST_WINDOW

-- it is so of one to the client, on some leg of the client
abbrev pub IsTrue : List OnLeg → OnLeg → Type 0
IsTrue came (leg, Packet (AckTo destination received available cookie)) =
    destination ≡ TO_CLIENT
    → (n : ℕ) × IsTrueOn (of_leg (ci_leg n) came) received available cookie
IsTrue came one = Unit {0}
