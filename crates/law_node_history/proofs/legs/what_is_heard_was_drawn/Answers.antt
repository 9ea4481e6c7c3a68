use Rattle.law_node_history.proofs.Recordings.{heard_was_drawn}
use Rattle.law_node_history.proofs.legs.what_is_heard_was_drawn.Goals as goal

pub returns : goal.returns
returns g c = heard_was_drawn
