-- how an in proxy refuses what comes from the client (MS-RPCH 3.2; flow control, 3.2.1)
use Rattle.std.specs.Prelude.{◌≡◌, ℕ, ◌+◌, ◌<◌, List, length, Err}
use Rattle.rh_rts.specs.declared.command.Cookie.{Cookie}
use Rattle.rh_rts.specs.declared.command.TheConstants.{TO_CLIENT}
use Rattle.rh_sig.specs.declared.named.Named.{Named}
use Rattle.rh_sig.specs.declared.named.Named.TheVariants.{AckTo}
use Rattle.rh_line.specs.declared.leg.LegKind.TheVariants.{InServer}
use Rattle.rh_shell.specs.declared.answers.Count.{Count}
use Rattle.rh_shell.specs.declared.answers.Refused.TheVariants as refused
use Rattle.rh_shell.specs.Rules.{Row, Rules}
use Rattle.law_moves.specs.Moves.{OnLeg, Passage}
use Rattle.law_moves.specs.Wires.{of_leg}
use Rattle.law_moves.specs.Passages.Passing.{pdu_bytes, HasOn, HasBegunIn}
use Rattle.law_role_windows.specs.Acknowledging.Acks.{ci_leg}

-- a channel of this cookie began on no other leg of the client; one that has it on two legs can't
-- tell for which of them it is told something
abbrev pub IsOnlyOn : ℕ → Cookie → List OnLeg → Type 0
IsOnlyOn n cookie came = (m : ℕ) → HasBegunIn cookie (of_leg (ci_leg m) came) → m ≡ n

-- a PDU that ends there ends behind all that was told for the leg's channel: the window with which
-- it opened, and the room that each acknowledgement for it tells
pub record EndsBehind (window n : ℕ) (came put : List OnLeg) (reached : ℕ) : Type 0 where
  pub opened : window < reached
  pub acked : (received available : ℕ) (cookie : Cookie)
      → HasOn InServer (AckTo TO_CLIENT received available cookie) put → IsOnlyOn n cookie came
      → received + available < reached

-- a row refuses for the window only where that is so, and nothing as out of range
abbrev pub RefusesOnly : Type 0 → Row → Type 0
RefusesOnly Behind (Err (refused.Window exceeded)) = Behind
RefusesOnly Behind (Err (refused.OutOfRange command value)) = ⊥
RefusesOnly Behind row = Unit {0}

-- on a leg of the client it is so of a PDU that ends behind all that was told, and of no packet
pub record ReceivesOn {S : Type 0} (rules : Rules S) (window n : ℕ) (p : Passage S)
    : Type 0 where
  pub pdus : (count : Count) (pdu : List ℕ)
      → RefusesOnly
      (EndsBehind window n p.came p.put (pdu_bytes (of_leg (ci_leg n) p.came) + length pdu))
      (rules.pdu p.role (ci_leg n) count pdu).1
  pub packets : (count : Count) (named : Named)
      → RefusesOnly ⊥ (rules.packet p.role (ci_leg n) count named).1
