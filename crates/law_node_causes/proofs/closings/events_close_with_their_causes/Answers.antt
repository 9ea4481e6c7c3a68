use Rattle.law_node_causes.proofs.ClosedBy.{closes}
use Rattle.law_node_causes.proofs.closings.events_close_with_their_causes.Goals as goal

pub returns : goal.returns
returns g c = closes g.R.Role.rules
