-- what is so in a server's logs where it refuses what comes on an is leg (MS-RPCH 3.2.5;
-- replacement and END are this profile's)
use Rattle.std.specs.Prelude.{ℕ, ◌≡◌, ◌⊎◌, ◌+◌, ◌≤◌, ◌<◌, List, [], ◌∷◌, Bool, true, false, IsTrue, Some, None, Err, if◌then◌else◌}
use Rattle.std.specs.declared.option.Option.{Option}
use Rattle.rh_rts.specs.declared.command.Cookie.{Cookie}
use Rattle.rh_sig.specs.declared.named.Named.{Named}
use Rattle.rh_sig.specs.declared.named.Named.TheVariants.{ConnB2, InR1A2, InR1B2, InR2A2, EndA2}
use Rattle.rh_line.specs.declared.leg.TheConstants.{LAST_NUMBER}
use Rattle.rh_line.specs.declared.leg.LegKind.TheVariants.{InServer}
use Rattle.rh_shell.specs.declared.answers.Count.{Count}
use Rattle.rh_shell.specs.declared.answers.Refused.TheVariants as refused
use Rattle.rh_shell.specs.Shells.{is_of}
use Rattle.rh_shell.specs.Rules.{Message, Text, Pdu, Packet}
use Rattle.rh_server.specs.States.{Server, in_leg, is_some}
use Rattle.rh_server.specs.Servers.{rules}
use Rattle.law_moves.specs.Moves.{EndMove, Moves, Passage, Up, is_in_use}
use Rattle.law_moves.specs.Wires.{of_leg}
use Rattle.law_moves.specs.Passages.Counted.{packets, Tells}
use Rattle.law_role_server.specs.Counted.Counting.{is_conn_a2, is_conn_b2, is_conn_b3, is_end_a2, is_in_r1_a2, is_in_r1_a3, is_in_r1_a6, is_in_r2_a2, is_in_r2_a3, in_came, leg_at, often_at, out_came, out_put, waits_for}
use Rattle.law_role_server_rows.specs.Refusing.Refusing.{IsOther}

abbrev pub is_in_r1_b2 : Named → Bool
is_in_r1_b2 (InR1B2 size) = true
is_in_r1_b2 packet = false

-- ---- is legs that came up

abbrev pub in_ups : List EndMove → ℕ
in_ups [] = 0
in_ups (Moves (Up leg cookie) ∷ moves) =
    (if is_of InServer leg then 1 else 0) + in_ups moves
in_ups (move ∷ moves) = in_ups moves

-- ---- cookies of IN channels

-- the cookie of the channel that a packet announces on its leg, and of the one that IN_R1/A2 does
abbrev pub named_by : Named → Option Cookie → Option Cookie
named_by (ConnB2 version connection cookie window timeout group address padding) before =
    Some cookie
named_by (InR1A2 version connection predecessor successor window timeout) before =
    Some successor
named_by (InR2A2 successor) before = Some successor
named_by packet before = before

abbrev pub successor_by : Named → Option Cookie → Option Cookie
successor_by (InR1A2 version connection predecessor successor window timeout) before =
    Some successor
successor_by packet before = before

-- what the last of these messages names
abbrev pub last_of : (Named → Option Cookie → Option Cookie) → Option Cookie → List Message
    → Option Cookie
last_of pick before [] = before
last_of pick before (Text bytes ∷ messages) = last_of pick before messages
last_of pick before (Pdu pdu ∷ messages) = last_of pick before messages
last_of pick before (Packet packet ∷ messages) = last_of pick (pick packet before) messages

-- ---- is leg n

-- how often such a packet came on it, or was put there
abbrev pub came_at : (Named → Bool) → Passage Server → ℕ → ℕ
came_at test p n = often_at test InServer n p.came

abbrev pub put_at : (Named → Bool) → Passage Server → ℕ → ℕ
put_at test p n = often_at test InServer n p.put

-- how many packets came on it
abbrev pub came_on : Passage Server → ℕ → ℕ
came_on p n = packets (of_leg (leg_at InServer n) p.came)

-- how many began a channel there
abbrev pub first_at : Passage Server → ℕ → ℕ
first_at p n = came_at is_conn_b2 p n + came_at is_in_r1_a2 p n

-- its channel waits until the one before is the current one: IN_R1/A2 came, some IN_R1/A3 is
-- neither put nor due, and no window was told there
pub record IsUnopened (p : Passage Server) (n : ℕ) : Type 0 where
  pub announced : 1 ≤ came_at is_in_r1_a2 p n
  pub answered : out_put is_in_r1_a3 p + waits_for is_in_r1_a3 p.role < in_came is_in_r1_a2 p
  pub untold : put_at is_conn_b3 p n + put_at is_in_r1_b2 p n ≡ 0

-- no channel of it is open: none began, it waits, or its handover mark came
abbrev pub IsShut : Passage Server → ℕ → Type 0
IsShut p n = (first_at p n ≡ 0) ⊎ IsUnopened p n ⊎ (1 ≤ came_at is_in_r1_a6 p n)

-- CONN/A2 or CONN/B2 is still to come
abbrev pub IsOpening : Passage Server → Type 0
IsOpening p = out_came is_conn_a2 p + in_came is_conn_b2 p ≤ 1

-- ---- why it refuses

abbrev pub UnexpectedPdu : Passage Server → ℕ → Type 0
UnexpectedPdu p n = IsOpening p ⊎ IsShut p n ⊎ (1 ≤ came_at is_end_a2 p n)

-- a channel that waits takes END/A2 too, once
abbrev pub UnexpectedEndA2 : Passage Server → ℕ → Type 0
UnexpectedEndA2 p n =
    (came_on p n ≡ 0) ⊎ (first_at p n ≡ 0) ⊎ (1 ≤ came_at is_in_r1_a6 p n)
    ⊎ (1 ≤ came_at is_end_a2 p n)

-- 2^32 - 1 numbers are given, to is legs that came up and by IN_R2/A2
abbrev pub UnexpectedInR2A2 : Passage Server → ℕ → Type 0
UnexpectedInR2A2 p n =
    (came_on p n ≡ 0) ⊎ IsOpening p ⊎ (out_put is_in_r2_a3 p < in_came is_in_r2_a2 p)
    ⊎ (LAST_NUMBER ≤ p.role.newest_in) ⊎ IsShut p n

-- a leg of a lower number is kept on which no channel began
pub record IsFreshBelow (p : Passage Server) (n : ℕ) : Type 0 where
  pub leg : ℕ
  pub positive : 1 ≤ leg
  pub below : leg < n
  pub kept : IsTrue (is_some (in_leg leg p.role.ins))
  pub none : first_at p leg ≡ 0

abbrev pub UnexpectedInR1A2 : Passage Server → ℕ → Type 0
UnexpectedInR1A2 p n = (1 ≤ came_on p n) ⊎ IsOpening p ⊎ IsFreshBelow p n

-- ---- cookies that are expected

-- the last announcement on the newest leg names it
pub record NewestNames (p : Passage Server) (expected : Cookie) : Type 0 where
  pub leg : ℕ
  pub names : last_of named_by None (of_leg (leg_at InServer leg) p.came) ≡ Some expected
  pub newest : (n : ℕ) → leg < n → first_at p n ≡ 0

-- ---- the law

abbrev pub IsUsed : Passage Server → ℕ → Type 0
IsUsed p n = IsTrue (is_in_use rules p.role (leg_at InServer n))

-- what comes is refused as unexpected only where this is so
pub record RefusesInFor (p : Passage Server) : Type 0 where
  pub pdu : (n : ℕ) (count : Count) (bytes : List ℕ) → IsUsed p n
      → (rules.pdu p.role (leg_at InServer n) count bytes).1 ≡ Err refused.Unexpected
      → UnexpectedPdu p n
  pub end_a2 : (n : ℕ) (count : Count) → IsUsed p n → Tells count (came_on p n)
      → (rules.packet p.role (leg_at InServer n) count EndA2).1 ≡ Err refused.Unexpected
      → UnexpectedEndA2 p n
  pub in_r2_a2 : (n : ℕ) (count : Count) (successor : Cookie) → IsUsed p n
      → Tells count (came_on p n)
      → (rules.packet p.role (leg_at InServer n) count (InR2A2 successor)).1
      ≡ Err refused.Unexpected
      → UnexpectedInR2A2 p n
  pub in_r1_a2 : (n : ℕ) (count : Count) (version : ℕ) (connection predecessor successor : Cookie)
      (window timeout : ℕ) → IsUsed p n → Tells count (came_on p n)
      → (rules.packet p.role (leg_at InServer n) count
      (InR1A2 version connection predecessor successor window timeout)).1
      ≡ Err refused.Unexpected
      → UnexpectedInR1A2 p n
  pub in_r1_a2_cookie : (n : ℕ) (count : Count) (version : ℕ)
      (connection predecessor successor : Cookie) (window timeout : ℕ) (expected got : Cookie)
      → (rules.packet p.role (leg_at InServer n) count
      (InR1A2 version connection predecessor successor window timeout)).1
      ≡ Err (refused.Cookie expected got)
      → IsOther connection expected got
      ⊎ (IsOther predecessor expected got × NewestNames p expected)
