-- the packets of replacements between the ends: of each as many pass as of the one before it, or
-- one less (the replacement of channels is this profile's)
use Rattle.std.specs.Prelude.{ℕ, ◌+◌, ◌≤◌}
use Rattle.rh_client.specs.declared.state.ClientRole.{ClientRole}
use Rattle.rh_server.specs.States.{Server}
use Rattle.law_moves.specs.Moves.{Passage}
use Rattle.law_role_client.specs.Counted.Replacing.{in_asked, in_answered}
use Rattle.law_role_client.specs.Counted.Replacing.{out_wanted, out_asked, out_answered, out_switched, out_finished}
use Rattle.law_role_server.specs.Counted.Counting.{is_in_r1_a2, is_in_r1_a3, is_in_r2_a2, is_in_r2_a3, is_out_r1_a1, is_out_r1_a4, is_out_r1_a5, is_out_r1_a8, is_out_r1_a9, in_came, out_came, out_put}

-- IN_R1/A2 and IN_R2/A2 that came to the server, and IN_R1/A3 and IN_R2/A3 that it put
abbrev pub announced : Passage Server → ℕ
announced s = in_came is_in_r1_a2 s + in_came is_in_r2_a2 s

abbrev pub taken_in : Passage Server → ℕ
taken_in s = out_put is_in_r1_a3 s + out_put is_in_r2_a3 s

-- from IN_R1/A1 by A2 and A3 to A4 which the client waits for
pub record InGoesRound (c : Passage ClientRole) (s : Passage Server) : Type 0 where
  pub a4_behind_a3 : in_answered c ≤ taken_in s
  pub a3_behind_a2 : taken_in s ≤ announced s
  pub a2_behind_a1 : announced s ≤ in_asked c
  pub a1_behind_a4 : in_asked c ≤ in_answered c + 1

-- from OUT_R1/A1 by all others to A9, which the server puts last, and A10
pub record OutGoesRound (c : Passage ClientRole) (s : Passage Server) : Type 0 where
  pub a10_behind_a9 : out_finished c ≤ out_put is_out_r1_a9 s
  pub a9_behind_a8 : out_put is_out_r1_a9 s ≤ in_came is_out_r1_a8 s
  pub a8_behind_a7 : in_came is_out_r1_a8 s ≤ out_switched c
  pub a7_behind_a6 : out_switched c ≤ out_answered c
  pub a6_behind_a5 : out_answered c ≤ out_put is_out_r1_a5 s
  pub a5_behind_a4 : out_put is_out_r1_a5 s ≤ out_came is_out_r1_a4 s
  pub a4_behind_a3 : out_came is_out_r1_a4 s ≤ out_asked c
  pub a3_behind_a2 : out_asked c ≤ out_wanted c
  pub a2_behind_a1 : out_wanted c ≤ out_put is_out_r1_a1 s
  pub a1_behind_a9 : out_put is_out_r1_a1 s ≤ out_put is_out_r1_a9 s + 1

pub record GoRound (c : Passage ClientRole) (s : Passage Server) : Type 0 where
  pub ins : InGoesRound c s
  pub outs : OutGoesRound c s
