use Rattle.law_order.proofs.Vocabulary.{refl}
use Rattle.law_node_history.proofs.Reported.{closed_is_reported}
use Rattle.law_node_history.proofs.Reporting.{line_closes}
use Rattle.law_node_history.proofs.closes.what_is_reported_closed_was_closed.Goals as goal

pub returns : goal.returns
returns g c = record {
  closed = line_closes;
  reported = closed_is_reported;
  line = λ r m d one w. refl;
  half = λ r m one w. refl;
}
