-- a client as the receiver of RPC PDUs on its OUT channels: up to where it tells that may be sent,
-- what it refuses for its window, and what it acknowledges (MS-RPCH 3.2)
use Rattle.std.specs.Prelude.{◌≡◌, ℕ, suc, ◌+◌, ◌<◌, ◌≤◌, List, Err}
use Rattle.rh_window.specs.declared.range.TheConstants.{GREATEST_WINDOW}
use Rattle.rh_rts.specs.declared.command.Cookie.{Cookie}
use Rattle.rh_rts.specs.declared.command.TheConstants.{TO_OUT_PROXY}
use Rattle.rh_sig.specs.declared.named.Named.TheVariants.{ConnA1, OutR1A3, AckTo}
use Rattle.rh_line.specs.declared.leg.Leg.{Leg}
use Rattle.rh_shell.specs.declared.answers.Refused.TheVariants as refused
use Rattle.rh_shell.specs.Rules.{Row}
use Rattle.rh_client.specs.declared.state.ClientRole.{ClientRole}
use Rattle.rh_client.specs.State.{co}
use Rattle.law_moves.specs.Moves.{OnLeg, EndMove, Passage}
use Rattle.law_moves.specs.Wires.{of_leg}
use Rattle.law_moves.specs.Passages.Passing.{pdu_bytes, Has}
use Rattle.law_moves.specs.Passages.Rising.{HasComeUp}

-- ---- what is refused

-- it ends behind the window that CONN/A1 or OUT_R1/A3 told on the leg (MS-RPCH 2.2.4)
pub record IsBehindWindow (k : ℕ) (put : List OnLeg) (reached : ℕ) : Type 0 where
  pub first : (version : ℕ) (connection channel : Cookie) (window : ℕ)
      → Has (ConnA1 version connection channel window) (of_leg (co k) put) → window < reached
  pub later : (version : ℕ) (connection predecessor channel : Cookie) (window : ℕ)
      → Has (OutR1A3 version connection predecessor channel window) (of_leg (co k) put)
      → window < reached

-- and behind all that acknowledgements told whose cookie is that with which this leg came up, and
-- with which no other OUT leg did (MS-RPCH 3.2.1)
abbrev pub IsBehindAcks : ℕ → List EndMove → List OnLeg → ℕ → Type 0
IsBehindAcks k moves put reached =
    (leg : Leg) (received available : ℕ) (cookie : Cookie)
    → Has (AckTo TO_OUT_PROXY received available cookie) (of_leg leg put)
    → HasComeUp moves (co k) cookie
    → ((j : ℕ) → HasComeUp moves (co j) cookie → j ≡ k)
    → received + available < reached

-- so it is of a PDU that a row refuses for the window; it would reach so far
abbrev pub RefusesBehind : (ℕ → Type 0) → ℕ → Row → Type 0
RefusesBehind IsBehind reached (Err (refused.Window exceeded)) = IsBehind reached
RefusesBehind IsBehind reached row = Unit {0}

-- a row does not refuse for a window
abbrev pub IsNoWindow : Row → Type 0
IsNoWindow (Err (refused.Window exceeded)) = ⊥
IsNoWindow row = Unit {0}

-- ---- what is acknowledged

-- the leg of an OUT channel came up with the cookie; the acknowledgement is of no more than came
-- there, and its window is none too great (MS-RPCH 3.2.1)
pub record IsTrueAck (moves : List EndMove) (came : List OnLeg) (received available : ℕ)
    (cookie : Cookie) : Type 0 where
  pub number : ℕ
  pub up : HasComeUp moves (co number) cookie
  pub arrived : received ≤ pdu_bytes (of_leg (co number) came)
  pub window : available ≤ GREATEST_WINDOW

-- ---- what its windows count and told

-- the windows of the current channel and of the one behind it count no more than came on their legs
pub record CountsWhatCame (p : Passage ClientRole) : Type 0 where
  pub current : p.role.line.current.window.received
      ≤ pdu_bytes (of_leg (co p.role.current.number) p.came)
  pub next : p.role.line.next.window.received
      ≤ pdu_bytes (of_leg (co (suc p.role.current.number)) p.came)

-- the window with which a channel opens is this (MS-RPCH 2.2.4)
pub record OpensWith (size : ℕ) (put : List OnLeg) : Type 0 where
  pub first : (leg : Leg) (version : ℕ) (connection channel : Cookie) (window : ℕ)
      → Has (ConnA1 version connection channel window) (of_leg leg put) → window ≡ size
  pub later : (leg : Leg) (version : ℕ) (connection predecessor channel : Cookie) (window : ℕ)
      → Has (OutR1A3 version connection predecessor channel window) (of_leg leg put)
      → window ≡ size

-- an acknowledgement is of a channel up to the current one, of what came there and of a window that
-- is no greater than this; of the current one it tells no more than that one's window told
pub record IsWithinWindow (size : ℕ) (moves : List EndMove) (p : Passage ClientRole)
    (received available : ℕ) (cookie : Cookie) : Type 0 where
  pub number : ℕ
  pub up : HasComeUp moves (co number) cookie
  pub arrived : received ≤ pdu_bytes (of_leg (co number) p.came)
  pub small : available ≤ size
  pub low : number ≤ p.role.current.number
  pub told : number ≡ p.role.current.number
      → received + available ≤ p.role.line.current.window.told
