-- a server asks for no successor of an OUT channel where no number is left for it (profile)
use Rattle.std.specs.Prelude.{◌<◌}
use Rattle.rh_server.specs.States.{Server}
use Rattle.rh_server.specs.OutReplacement.{last_number}
use Rattle.law_moves.specs.Moves.{Passage}
use Rattle.law_role_server.specs.Counted.Counting.{is_out_r1_a1, is_out_r1_a9, out_put}

-- so the OUT channels that it asked for, and those that began, have numbers up to the last one
pub record HasNumbers (p : Passage Server) : Type 0 where
  pub asked : out_put is_out_r1_a1 p < last_number
  pub handed_over : out_put is_out_r1_a9 p < last_number
