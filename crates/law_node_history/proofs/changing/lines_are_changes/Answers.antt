use Rattle.law_node_history.proofs.Halves.{leads_turns}
use Rattle.law_node_history.proofs.changing.lines_are_changes.Goals as goal

pub returns : goal.returns
returns g c = leads_turns
