use Rattle.law_node_history.proofs.Vocabulary.{round, step_line}
use Rattle.law_node_history.proofs.Lines.{step_by_lines, goes_step_line}
use Rattle.law_node_history.proofs.Rounds.{goes_round}
use Rattle.law_node_history.proofs.Working.{works_quietly, works_by_lines}
use Rattle.law_node_history.proofs.changing.lines_make_changes_of_lines.Goals as goal

pub returns : goal.returns
returns g c = record {
  line = step_by_lines;
  unreported = λ r m d one w.
      works_by_lines r m d w (step_line r m d one w).0 (goes_step_line r m d one w).works;
  round = λ r m d w. works_by_lines r m d w (round r m d w).0 (goes_round r m d w).works;
  work = works_by_lines;
  quiet = λ r m d w v a. works_by_lines r m d w v (works_quietly r m d w v a);
}
