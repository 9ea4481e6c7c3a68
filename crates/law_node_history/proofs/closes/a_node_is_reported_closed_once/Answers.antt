use Rattle.law_node_history.proofs.Counting.{told_once}
use Rattle.law_node_history.proofs.closes.a_node_is_reported_closed_once.Goals as goal

pub returns : goal.returns
returns g c = told_once
