use Rattle.law_node_history.proofs.Lines.{leads_step, goes_step_line}
use Rattle.law_node_history.proofs.Rounds.{goes_round}
use Rattle.law_node_history.proofs.changing.a_line_is_changes.Goals as goal

pub returns : goal.returns
returns g c = record {
  line = leads_step;
  unreported = λ r m d one w. (goes_step_line r m d one w).works;
  round = λ r m d w. (goes_round r m d w).works;
}
