-- how an out proxy sends RPC PDUs to its client: up to where it was told that it may, and which
-- acknowledgements it refuses (MS-RPCH 3.2)
use Rattle.std.specs.Prelude.{◌≡◌, ◌⊎◌, ◌+◌, ◌<◌, ◌≤◌, ℕ, List, Bool, true, false, Err}
use Rattle.rh_window.specs.declared.range.TheConstants.{GREATEST_WINDOW}
use Rattle.rh_rts.specs.declared.command.Cookie.{Cookie}
use Rattle.rh_rts.specs.declared.command.TheConstants.{TO_OUT_PROXY}
use Rattle.rh_sig.specs.declared.named.Named.{Named}
use Rattle.rh_sig.specs.declared.named.Named.TheVariants.{ConnA1, OutR1A3, AckTo}
use Rattle.rh_line.specs.declared.leg.Leg.{Leg}
use Rattle.rh_line.specs.declared.leg.LegKind.TheVariants.{ClientOut, OutServer}
use Rattle.rh_shell.specs.declared.answers.Count.{Count}
use Rattle.rh_shell.specs.declared.answers.Refused.TheVariants as refused
use Rattle.rh_shell.specs.Rules.{Row}
use Rattle.rh_shell.specs.Shells.{same_leg}
use Rattle.rh_outproxy.specs.Machine.{rules}
use Rattle.rh_outproxy.specs.OutProxy.{OutProxy}
use Rattle.law_moves.specs.Moves.{OnLeg, Passage}
use Rattle.law_moves.specs.Wires.{of_leg}
use Rattle.law_moves.specs.Passages.Passing.{pdu_bytes, count_of, Has, HasBegunOut}

-- the legs of the out proxy with this number: from its client, and to the server
abbrev pub co_leg : ℕ → Leg
co_leg n = record { kind = ClientOut; number = n }

abbrev pub os_leg : ℕ → Leg
os_leg n = record { kind = OutServer; number = n }

-- ---- up to where it may send

-- the packet opens the channel (MS-RPCH 2.2.4; OUT_R1/A3 is this profile's)
abbrev pub opens : Named → Bool
opens (ConnA1 version connection channel window) = true
opens (OutR1A3 version connection predecessor channel window) = true
opens packet = false

-- at most one that does came from the client (profile)
abbrev pub OpensOnce : ℕ → List OnLeg → Type 0
OpensOnce n came = count_of opens (of_leg (co_leg n) came) ≤ 1

-- it tells the client's receive window (MS-RPCH 3.2.1)
abbrev pub TellsWindow : Named → ℕ → Type 0
TellsWindow (ConnA1 version connection channel window) size = window ≡ size
TellsWindow (OutR1A3 version connection predecessor channel window) size = window ≡ size
TellsWindow packet size = ⊥

-- so many bytes are within the window of a packet that opened the channel
pub record IsInWindow (n : ℕ) (came : List OnLeg) (bytes : ℕ) : Type 0 where
  pub packet : Named
  pub has : Has packet (of_leg (co_leg n) came)
  pub window : ℕ
  pub tells : TellsWindow packet window
  pub within : bytes ≤ window

-- they are within the room of an acknowledgement to the proxy, of a channel that began there
-- (MS-RPCH 3.2.1)
pub record IsInRoom (n : ℕ) (came : List OnLeg) (bytes : ℕ) : Type 0 where
  pub received : ℕ
  pub available : ℕ
  pub cookie : Cookie
  pub has : Has (AckTo TO_OUT_PROXY received available cookie) (of_leg (os_leg n) came)
  pub begun : HasBegunOut cookie (of_leg (co_leg n) came)
  pub within : bytes ≤ received + available

-- the proxy was told that it may send so many bytes, or there are none
abbrev pub MaySend : ℕ → List OnLeg → ℕ → Type 0
MaySend n came bytes = (bytes ≡ 0) ⊎ (IsInWindow n came bytes ⊎ IsInRoom n came bytes)

-- ---- what it refuses

-- an acknowledgement to the proxy of more bytes than were sent, or of too great a window; it came
-- from the server, and is of a channel that began
abbrev pub IsFalseAck : ℕ → List OnLeg → ℕ → Leg → Named → Type 0
IsFalseAck n came sent leg (AckTo to received available cookie) =
    (leg ≡ os_leg n) × (to ≡ TO_OUT_PROXY) × HasBegunOut cookie (of_leg (co_leg n) came)
    × ((sent < received) ⊎ (GREATEST_WINDOW < available))
IsFalseAck n came sent leg packet = ⊥

-- a packet that a row refuses as out of range is one
abbrev pub RefusesFalseAcks : ℕ → List OnLeg → ℕ → Leg → Named → Row → Type 0
RefusesFalseAcks n came sent leg named (Err (refused.OutOfRange command value)) =
    IsFalseAck n came sent leg named
RefusesFalseAcks n came sent leg named row = Unit {0}

-- the row refuses nothing as out of range, or for a window
abbrev pub IsInRange : Row → Type 0
IsInRange (Err (refused.OutOfRange command value)) = ⊥
IsInRange row = Unit {0}

abbrev pub IsNoWindow : Row → Type 0
IsNoWindow (Err (refused.Window exceeded)) = ⊥
IsNoWindow row = Unit {0}

-- ---- the sender

-- an out proxy sent no more to its client than it was told, and RPC PDUs nowhere else; it refuses
-- as out of range only acknowledgements that are false, and on its client's leg nothing for a
-- window. Where two packets opened the channel its bytes are counted anew
pub record SendsWithin (n : ℕ) (p : Passage OutProxy) : Type 0 where
  pub within : OpensOnce n p.came → MaySend n p.came (pdu_bytes (of_leg (co_leg n) p.put))
  pub elsewhere : (leg : Leg) → same_leg (co_leg n) leg ≡ false
      → pdu_bytes (of_leg leg p.put) ≡ 0
  pub refuses : OpensOnce n p.came → (leg : Leg) (count : Count) (named : Named)
      → RefusesFalseAcks n p.came (pdu_bytes (of_leg (co_leg n) p.put)) leg named
      (rules.packet p.role leg count named).1
  pub ranges : (leg : Leg) (count : Count) (pdu : List ℕ)
      → IsInRange (rules.pdu p.role leg count pdu).1
  pub windows : (leg : Leg) (count : Count) (named : Named)
      → IsNoWindow (rules.packet p.role leg count named).1
  pub pdus : (count : Count) (pdu : List ℕ)
      → (rules.pdu p.role (co_leg n) count pdu).1 ≡ Err refused.Unexpected
