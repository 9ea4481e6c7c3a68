-- OUT channels are replaced one by one (profile)
use Rattle.std.specs.Prelude.{ℕ, suc, ◌≡◌, ◌+◌, ◌≤◌}
use Rattle.rh_line.specs.declared.leg.LegKind.TheVariants.{OutServer}
use Rattle.rh_server.specs.declared.state.Replacement.{Replacement}
use Rattle.rh_server.specs.declared.state.Replacement.TheVariants.{Steady, Asked, Answered, Confirmed}
use Rattle.rh_server.specs.States.{Server}
use Rattle.law_moves.specs.Moves.{Passage}
use Rattle.law_role_server.specs.Counted.Counting.{is_out_r1_a1, is_out_r1_a4, is_out_r1_a5, is_out_r1_a8, is_out_r1_a9, in_came, out_came, out_put, waits_for, IsOnEachFrom}

-- ---- how far a replacement is: 1 from this on, 0 before

-- it is asked for: OUT_R1/A1 is due, or was put
abbrev pub since_asked : Replacement → ℕ
since_asked Steady = 0
since_asked Asked = 1
since_asked (Answered successor) = 1
since_asked Confirmed = 1

-- OUT_R1/A4 came
abbrev pub since_answered : Replacement → ℕ
since_answered Steady = 0
since_answered Asked = 0
since_answered (Answered successor) = 1
since_answered Confirmed = 1

-- OUT_R1/A8 came
abbrev pub since_confirmed : Replacement → ℕ
since_confirmed Steady = 0
since_confirmed Asked = 0
since_confirmed (Answered successor) = 0
since_confirmed Confirmed = 1

-- ---- the law

-- each OUT_R1/A9 ends a replacement, and the writing channel is the one behind as many; those that
-- wait count as not put
pub record AreReplaced (p : Passage Server) : Type 0 where
  pub writing : p.role.writing ≡ suc (out_put is_out_r1_a9 p)
  pub asked : out_put is_out_r1_a1 p + waits_for is_out_r1_a1 p.role
      ≡ out_put is_out_r1_a9 p + since_asked p.role.replacement
  pub began : out_came is_out_r1_a4 p
      ≡ out_put is_out_r1_a9 p + since_answered p.role.replacement
  pub answered : out_put is_out_r1_a5 p + waits_for is_out_r1_a5 p.role
      ≡ out_put is_out_r1_a9 p + since_answered p.role.replacement
  pub confirmed : in_came is_out_r1_a8 p
      ≡ out_put is_out_r1_a9 p + since_confirmed p.role.replacement
  -- OUT_R1/A1 and OUT_R1/A5 wait only until their answer comes, OUT_R1/A9 until it is put
  pub a1_waits : waits_for is_out_r1_a1 p.role + since_answered p.role.replacement
      ≤ since_asked p.role.replacement
  pub a5_waits : waits_for is_out_r1_a5 p.role + since_confirmed p.role.replacement
      ≤ since_answered p.role.replacement
  pub a9_waits : waits_for is_out_r1_a9 p.role ≡ since_confirmed p.role.replacement

-- each of the five packets follows the one before
pub record AreInTurn (p : Passage Server) : Type 0 where
  pub a9_behind_a8 : out_put is_out_r1_a9 p ≤ in_came is_out_r1_a8 p
  pub a8_behind_a5 : in_came is_out_r1_a8 p ≤ out_put is_out_r1_a5 p
  pub a5_behind_a4 : out_put is_out_r1_a5 p ≤ out_came is_out_r1_a4 p
  pub a4_behind_a1 : out_came is_out_r1_a4 p ≤ out_put is_out_r1_a1 p
  pub a1_behind_a9 : out_put is_out_r1_a1 p ≤ suc (out_put is_out_r1_a9 p)

-- the server puts each of its packets once on each channel in turn, and each successor begins once,
-- on the leg behind
pub record ArePutInTurn (p : Passage Server) : Type 0 where
  pub a1 : IsOnEachFrom 1 is_out_r1_a1 OutServer p.put
  pub a4 : IsOnEachFrom 2 is_out_r1_a4 OutServer p.came
  pub a5 : IsOnEachFrom 1 is_out_r1_a5 OutServer p.put
  pub a9 : IsOnEachFrom 1 is_out_r1_a9 OutServer p.put
