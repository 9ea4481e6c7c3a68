use Rattle.law_node_history.proofs.Halves.{leads_half}
use Rattle.law_node_history.proofs.changing.a_half_step_is_changes.Goals as goal

pub returns : goal.returns
returns g c = leads_half
