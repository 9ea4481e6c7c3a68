use Rattle.law_node_causes.proofs.ClosedBy.{from_event}
use Rattle.law_node_causes.proofs.closings.causes_come_from_their_events.Goals as goal

pub returns : goal.returns
returns g c = from_event g.R.Role.rules
