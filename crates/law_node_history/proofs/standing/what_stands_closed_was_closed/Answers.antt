use Rattle.law_node_history.proofs.StoodClosed.{leads_stand}
use Rattle.law_node_history.proofs.standing.what_stands_closed_was_closed.Goals as goal

pub returns : goal.returns
returns g c = leads_stand
