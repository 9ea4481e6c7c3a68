-- what is so of a server's moves where it refuses IN_R1/A6: which IN channels opened, one behind
-- another (profile)
use Rattle.std.specs.Prelude.{ℕ, ◌≡◌, ◌⊎◌, ◌+◌, ◌≤◌, List, Some, None, Err}
use mathlib.Core.List.{IsPrefix}
use Rattle.rh_rts.specs.declared.command.Cookie.{Cookie}
use Rattle.rh_sig.specs.declared.named.Named.TheVariants.{InR1A6}
use Rattle.rh_line.specs.declared.leg.LegKind.TheVariants.{InServer}
use Rattle.rh_shell.specs.declared.answers.Count.{Count}
use Rattle.rh_shell.specs.declared.answers.Refused.TheVariants as refused
use Rattle.law_moves.specs.Moves.{EndMove, Passage, all_end_moved, end_started}
use Rattle.law_moves.specs.Wires.{of_leg}
use Rattle.rh_server.specs.States.{Server}
use Rattle.rh_server.specs.Servers.{acts, first, rules}
use Rattle.law_role_server.specs.Counted.Counting.{is_in_r1_a2, is_in_r1_a3, is_in_r1_a6, in_came, leg_at, out_put, waits_for}
use Rattle.law_role_server_rows.specs.Refusing.Refusing.{IsOther}
use Rattle.law_role_server_in.specs.Refusing.{IsUsed, came_at, first_at, last_of, successor_by}

-- what passed a server by these moves
abbrev pub passed : ℕ → List EndMove → Passage Server
passed window moves = (all_end_moved rules acts (end_started (first window)) moves).passage

-- IN_R1/A3 that were put or are due
abbrev pub answers : Passage Server → ℕ
answers p = out_put is_in_r1_a3 p + waits_for is_in_r1_a3 p.role

-- behind this front of the moves a channel had begun on is leg n, and none waited: so it was open,
-- or left
pub record HadOpened (window : ℕ) (moves : List EndMove) (n : ℕ) (front : List EndMove)
    : Type 0 where
  pub on : IsPrefix front moves
  pub began : 1 ≤ first_at (passed window front) n
  pub none_waits : in_came is_in_r1_a2 (passed window front) ≤ answers (passed window front)

-- no IN_R1/A3 was put for a channel that opened behind that of the leg
abbrev pub IsLastAnswered : ℕ → List EndMove → ℕ → Type 0
IsLastAnswered window moves n =
    (front : List EndMove) → HadOpened window moves n front
    → out_put is_in_r1_a3 (passed window moves) ≤ answers (passed window front)

-- none began on the leg, its handover mark came, or none was answered behind it
abbrev pub UnexpectedInR1A6 : ℕ → List EndMove → ℕ → Type 0
UnexpectedInR1A6 window moves n =
    (first_at (passed window moves) n ≡ 0) ⊎ (1 ≤ came_at is_in_r1_a6 (passed window moves) n)
    ⊎ IsLastAnswered window moves n

-- the IN_R1/A2 on the one leg whose channel opened behind that of leg n names it
pub record NextNames (window : ℕ) (moves : List EndMove) (n : ℕ) (expected : Cookie)
    : Type 0 where
  pub leg : ℕ
  pub names : last_of successor_by None (of_leg (leg_at InServer leg) (passed window moves).came)
      ≡ Some expected
  -- a channel that had not begun when that of leg n was open, and was open later, is on this leg
  pub only : (m : ℕ) (before front : List EndMove) → HadOpened window moves n before
      → first_at (passed window before) m ≡ 0 → HadOpened window moves m front → m ≡ leg

-- ---- channels that stay

-- behind a front of the moves its channel had opened, and IN_R1/A6 did not come there by now
pub record IsStillOpen (window : ℕ) (moves : List EndMove) (n : ℕ) : Type 0 where
  pub front : List EndMove
  pub opened : HadOpened window moves n front
  pub stays : came_at is_in_r1_a6 (passed window moves) n ≡ 0

-- of three such legs two are the same
abbrev pub TwoAreOpen : ℕ → List EndMove → Type 0
TwoAreOpen window moves =
    (k m n : ℕ) → IsStillOpen window moves k → IsStillOpen window moves m
    → IsStillOpen window moves n → (k ≡ m) ⊎ (m ≡ n) ⊎ (k ≡ n)

-- ---- the law

pub record RefusesInR1A6 (window : ℕ) (moves : List EndMove) : Type 0 where
  -- it is refused as unexpected only where this is so
  pub in_r1_a6 : (n : ℕ) (count : Count) (successor : Cookie) → IsUsed (passed window moves) n
      → (rules.packet (passed window moves).role (leg_at InServer n) count (InR1A6 successor)).1
      ≡ Err refused.Unexpected
      → UnexpectedInR1A6 window moves n
  -- and for its cookie only where this is
  pub in_r1_a6_cookie : (n : ℕ) (count : Count) (successor expected got : Cookie)
      → (rules.packet (passed window moves).role (leg_at InServer n) count (InR1A6 successor)).1
      ≡ Err (refused.Cookie expected got)
      → IsOther successor expected got × NextNames window moves n expected
