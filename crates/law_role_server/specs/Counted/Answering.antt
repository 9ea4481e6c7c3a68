-- IN channels are announced and answered (profile)
use Rattle.std.specs.Prelude.{ℕ, suc, ◌≡◌, ◌+◌, ◌≤◌, Bool, List, [], ◌∷◌, if◌then◌else◌}
use Rattle.rh_line.specs.declared.leg.LegKind.TheVariants.{InServer}
use Rattle.rh_server.specs.declared.state.InLeg.{InLeg}
use Rattle.rh_server.specs.States.{Server, is_waiting}
use Rattle.law_moves.specs.Moves.{Passage}
use Rattle.law_role_server.specs.Counted.Counting.{is_conn_b2, is_end_a2, is_in_r1_a2, is_in_r1_a3, is_in_r1_a6, is_in_r2_a2, is_in_r2_a3, in_came, out_put, often_at, waits_for}

-- how many is legs pass a test
abbrev pub how_many : (InLeg → Bool) → List InLeg → ℕ
how_many test [] = 0
how_many test (leg ∷ legs) = if test leg then suc (how_many test legs) else how_many test legs

-- on these a channel waits until the one before it is the current one
abbrev pub waits_on : InLeg → Bool
waits_on leg = is_waiting leg.stage

-- each IN_R1/A2 has its IN_R1/A3 put, or due, or its channel waits; and each IN_R2/A2 its IN_R2/A3
pub record AreAnswered (p : Passage Server) : Type 0 where
  pub in_r1 : out_put is_in_r1_a3 p + waits_for is_in_r1_a3 p.role + how_many waits_on p.role.ins
      ≡ in_came is_in_r1_a2 p
  pub in_r2 : out_put is_in_r2_a3 p + waits_for is_in_r2_a3 p.role ≡ in_came is_in_r2_a2 p
  -- so answers are never more than announcements
  pub in_r1_at_most : out_put is_in_r1_a3 p ≤ in_came is_in_r1_a2 p
  pub in_r2_at_most : out_put is_in_r2_a3 p ≤ in_came is_in_r2_a2 p

-- CONN/B2 and IN_R1/A2 come once at most on an is leg
pub record BeginOnce (p : Passage Server) : Type 0 where
  pub conn_b2 : (n : ℕ) → often_at is_conn_b2 InServer n p.came ≤ 1
  pub in_r1_a2 : (n : ℕ) → often_at is_in_r1_a2 InServer n p.came ≤ 1

-- so do IN_R1/A6 and END/A2
pub record EndOnce (p : Passage Server) : Type 0 where
  pub in_r1_a6 : (n : ℕ) → often_at is_in_r1_a6 InServer n p.came ≤ 1
  pub end_a2 : (n : ℕ) → often_at is_end_a2 InServer n p.came ≤ 1
