use Rattle.law_node_marks.proofs.GoesOn.{goes_on}
use Rattle.law_node_marks.proofs.losing.a_node_goes_on_where_it_may_lose_a_leg.Goals as goal

pub returns : goal.returns
returns g c = goes_on g.R.Role.rules
