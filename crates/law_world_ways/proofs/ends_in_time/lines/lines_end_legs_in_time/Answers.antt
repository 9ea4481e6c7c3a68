use Rattle.law_node_history.proofs.Vocabulary.{step, step_line}
use Rattle.law_world_ways.proofs.EndsInTime.Behind.{NoLeg}
use Rattle.law_world_ways.proofs.EndsInTime.Both.{first_up}
use Rattle.law_world_ways.proofs.EndsInTime.Goes.{ends_in_time, goes_none, in_time_then}
use Rattle.law_world_ways.proofs.EndsInTime.EachLine.{others_lose_none, step_in_time, step_keeps, step_line_in_time, step_line_keeps}
use Rattle.law_world_ways.proofs.ends_in_time.lines.lines_end_legs_in_time.Goals as goal

pub returns : goal.returns
returns g c = record {
  line = λ r m d line w both over.
      ends_in_time r m d w (step r m d line w).0 (step_in_time r m d line w both over);
  unreported = λ r m d line w both over.
      ends_in_time r m d w (step_line r m d line w).0 (step_line_in_time r m d line w both over);
  first = first_up;
  both = step_keeps;
  both_unreported = step_line_keeps;
  others = others_lose_none;
  none = λ r m d w. ends_in_time r m d w w (goes_none r m d NoLeg w);
  behind = in_time_then;
}
