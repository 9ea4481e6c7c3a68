use Rattle.law_node_causes.proofs.Touches.{since_is_at_end}
use Rattle.law_node_causes.proofs.moments.an_ends_leg_is_silent_since_it_was_heard.Goals as goal

pub returns : goal.returns
returns g c = since_is_at_end g.R.Role.rules g.R.EndRole.acts
