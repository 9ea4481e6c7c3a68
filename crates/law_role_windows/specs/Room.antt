-- what a receiver tells that acknowledges by other nodes, and what it holds of the RPC PDUs that
-- came on a leg: its window begins behind what it passed on, of what came and is not held (MS-RPCH
-- 3.2, 3.2.1)
use Rattle.std.specs.Prelude.{◌≡◌, ℕ, suc, ◌+◌, ◌-◌, ◌==◌, ◌≤◌, ◌&&◌, if◌then◌else◌, List}
use Rattle.rh_rts.specs.declared.command.Cookie.{Cookie}
use Rattle.rh_rts.specs.declared.command.TheConstants.{TO_CLIENT, TO_OUT_PROXY}
use Rattle.rh_sig.specs.declared.named.Named.TheVariants.{AckTo}
use Rattle.rh_line.specs.Lines.{Line}
use Rattle.rh_line.specs.Queue.{total}
use Rattle.rh_line.specs.declared.leg.Leg.{Leg}
use Rattle.rh_line.specs.declared.leg.LegKind.TheVariants.{InServer}
use Rattle.rh_inproxy.specs.State.{InProxy}
use Rattle.rh_inproxy.specs.declared.state.Successor.{Successor}
use Rattle.rh_inproxy.specs.declared.state.Successor.TheVariants.{Absent, Up, Joined}
use Rattle.rh_client.specs.State.{co}
use Rattle.rh_client.specs.declared.state.ClientRole.{ClientRole}
use Rattle.law_moves.specs.Moves.{EndMove, OnLeg}
use Rattle.law_moves.specs.Passages.Passing.{pdu_bytes, Has, HasOn}
use Rattle.law_moves.specs.Passages.Rising.{HasComeUp}
use Rattle.law_moves.specs.Wires.{of_leg}
use Rattle.law_role_windows.specs.Acknowledging.Acks.{ci_leg}
use Rattle.law_role_windows.specs.Acknowledging.Receiving.{IsOnlyOn}

-- ---- an in proxy, on leg n of the client: of the current channel, or of the one behind it

abbrev pub held_behind : ℕ → Line → Successor → ℕ
held_behind n line (Joined leg stage) = if leg.number == n then total line.next.pdus else 0
held_behind n line (Up number) = 0
held_behind n line Absent = 0

abbrev pub held_by_in_proxy : ℕ → InProxy → ℕ
held_by_in_proxy n s =
    if s.current.number == n then total s.line.current.pdus
    else held_behind n s.line s.successor

-- it holds no more than came; and an acknowledgement whose cookie is of no other leg tells no more
-- than a window of this size
pub record InProxyRoom (size holds n : ℕ) (came put : List OnLeg) : Type 0 where
  pub held : holds ≤ pdu_bytes (of_leg (ci_leg n) came)
  pub acked : (received available : ℕ) (cookie : Cookie)
      → HasOn InServer (AckTo TO_CLIENT received available cookie) put → IsOnlyOn n cookie came
      → received + available ≤ (pdu_bytes (of_leg (ci_leg n) came) - holds) + size

-- ---- a client, on the leg of OUT channel k: of the current channel, or of the next one

abbrev pub held_by_client : ℕ → ClientRole → ℕ
held_by_client k s =
    if s.current.number == k then total s.line.current.pdus
    else (if s.line.has_next && (suc s.current.number == k) then total s.line.next.pdus else 0)

-- the same of a client, whose leg came up with the cookie, and no other OUT leg did
pub record ClientRoom (size holds k : ℕ) (moves : List EndMove) (came put : List OnLeg)
    : Type 0 where
  pub held : holds ≤ pdu_bytes (of_leg (co k) came)
  pub acked : (leg : Leg) (received available : ℕ) (cookie : Cookie)
      → Has (AckTo TO_OUT_PROXY received available cookie) (of_leg leg put)
      → HasComeUp moves (co k) cookie → ((j : ℕ) → HasComeUp moves (co j) cookie → j ≡ k)
      → received + available ≤ (pdu_bytes (of_leg (co k) came) - holds) + size
