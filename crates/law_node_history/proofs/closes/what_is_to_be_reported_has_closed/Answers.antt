use Rattle.law_node_history.proofs.ToReport.{closed_to_report}
use Rattle.law_node_history.proofs.closes.what_is_to_be_reported_has_closed.Goals as goal

pub returns : goal.returns
returns g c = closed_to_report
