use Rattle.law_node_history.proofs.Vocabulary.{step_line}
use Rattle.law_world_reports.proofs.Closed.Lines.{goes_step_line}
use Rattle.law_world_reports.proofs.closes.shows.what_a_line_tells_shows.Goals as goal

pub returns : goal.returns
returns g c = λ r m d line w.
    goes_step_line r m d line w (step_line r m d line w).1 (λ x h. h)
