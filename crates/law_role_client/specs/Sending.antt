-- how far a client may send on each of its IN channels, by what it was told; which acknowledgements
-- it refuses (MS-RPCH 3.2.1); and the cookies of its channels
use Rattle.std.specs.Prelude.{◌≡◌, ℕ, ◌+◌, ◌<◌, ◌≤◌, ◌⊎◌, List, false, Err}
use Rattle.rh_window.specs.declared.range.TheConstants.{GREATEST_WINDOW}
use Rattle.rh_rts.specs.declared.command.Cookie.{Cookie}
use Rattle.rh_rts.specs.declared.command.TheConstants.{TO_CLIENT}
use Rattle.rh_sig.specs.declared.named.Named.{Named}
use Rattle.rh_sig.specs.declared.named.Named.TheVariants.{ConnC2, InR1A4, AckTo}
use Rattle.rh_line.specs.declared.leg.Leg.{Leg}
use Rattle.rh_line.specs.declared.leg.LegKind.TheVariants.{ClientOut}
use Rattle.rh_shell.specs.declared.answers.Count.{Count}
use Rattle.rh_shell.specs.declared.answers.Refused.TheVariants as refused
use Rattle.rh_shell.specs.Rules.{Row}
use Rattle.rh_shell.specs.Shells.{is_of}
use Rattle.rh_client.specs.declared.state.ClientRole.{ClientRole}
use Rattle.rh_client.specs.State.{ci, co}
use Rattle.rh_client.specs.Client.{rules}
use Rattle.law_moves.specs.Moves.{OnLeg, Passage, EndMove}
use Rattle.law_moves.specs.Wires.{of_leg}
use Rattle.law_moves.specs.Passages.Passing.{pdu_bytes, HasOn, HasBegunIn, HasBegunOut}
use Rattle.law_moves.specs.Passages.Rising.{HasComeUp}

-- ---- cookies

-- a channel that begins on a leg has the cookie with which that came up (MS-RPCH 2.2.4)
pub record BeginsByCookie (moves : List EndMove) (put : List OnLeg) : Type 0 where
  pub ins : (n : ℕ) (cookie : Cookie) → HasBegunIn cookie (of_leg (ci n) put)
      → HasComeUp moves (ci n) cookie
  pub outs : (n : ℕ) (cookie : Cookie) → HasBegunOut cookie (of_leg (co n) put)
      → HasComeUp moves (co n) cookie

-- ---- up to where it may send

-- the edge that a packet tells, of a channel whose cookie is so: the in proxy's window where it
-- opens the channel or a successor, and the end of the room that an acknowledgement to the client
-- tells (MS-RPCH 3.2.1)
abbrev pub TellsEdge : (Cookie → Type 0) → Named → ℕ → Type 0
TellsEdge IsOf (ConnC2 version window timeout) edge = edge ≡ window
TellsEdge IsOf (InR1A4 to version window timeout) edge = edge ≡ window
TellsEdge IsOf (AckTo to received available cookie) edge =
    (to ≡ TO_CLIENT) × (edge ≡ received + available) × IsOf cookie
TellsEdge IsOf packet edge = ⊥

-- a packet that came on an OUT channel tells an edge that is at least so many bytes
pub record IsTold (IsOf : Cookie → Type 0) (came : List OnLeg) (bytes : ℕ) : Type 0 where
  pub packet : Named
  pub edge : ℕ
  pub on : HasOn ClientOut packet came
  pub tells : TellsEdge IsOf packet edge
  pub within : bytes ≤ edge

-- the bytes are none, or within an edge that was told
abbrev pub IsWithin : (Cookie → Type 0) → List OnLeg → ℕ → Type 0
IsWithin IsOf came bytes = (bytes ≡ 0) ⊎ IsTold IsOf came bytes

-- ---- what it refuses

-- an acknowledgement to the client, of a channel of its own: of more bytes than were put there, or
-- of too great a window (MS-RPCH 3.2.1)
pub record IsFalseAckOn (moves : List EndMove) (put : List OnLeg) (received available : ℕ)
    (cookie : Cookie) (n : ℕ) : Type 0 where
  pub is_of_it : HasComeUp moves (ci n) cookie
  pub exceeds : (pdu_bytes (of_leg (ci n) put) < received) ⊎ (GREATEST_WINDOW < available)

abbrev pub IsFalseAck : List EndMove → List OnLeg → Named → Type 0
IsFalseAck moves put (AckTo to received available cookie) =
    (to ≡ TO_CLIENT) × ((n : ℕ) × IsFalseAckOn moves put received available cookie n)
IsFalseAck moves put packet = ⊥

-- a packet that a row refuses as out of range is one
abbrev pub RefusesFalseAcks : List EndMove → List OnLeg → Named → Row → Type 0
RefusesFalseAcks moves put packet (Err (refused.OutOfRange command value)) =
    IsFalseAck moves put packet
RefusesFalseAcks moves put packet row = Unit {0}

-- the row refuses nothing as out of range
abbrev pub IsInRange : Row → Type 0
IsInRange (Err (refused.OutOfRange command value)) = ⊥
IsInRange row = Unit {0}

-- a client put on each IN channel no more than it was told there or of that channel; on its OUT
-- channels it refuses an acknowledgement as out of range only where that is false, and nothing else
-- anywhere
pub record SendsAsTold (moves : List EndMove) (p : Passage ClientRole) : Type 0 where
  pub within : (n : ℕ) → IsWithin (λ cookie. HasBegunIn cookie (of_leg (ci n) p.put)) p.came
      (pdu_bytes (of_leg (ci n) p.put))
  pub refuses : (leg : Leg) (count : Count) (packet : Named)
      → RefusesFalseAcks moves p.put packet (rules.packet p.role leg count packet).1
  pub others : (leg : Leg) (count : Count) (packet : Named) → is_of ClientOut leg ≡ false
      → IsInRange (rules.packet p.role leg count packet).1
  pub pdus : (leg : Leg) (count : Count) (pdu : List ℕ)
      → IsInRange (rules.pdu p.role leg count pdu).1
