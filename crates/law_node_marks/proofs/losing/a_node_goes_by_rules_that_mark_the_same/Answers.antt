use Rattle.law_node_marks.proofs.MarkingSame.{events_same}
use Rattle.law_node_marks.proofs.losing.a_node_goes_by_rules_that_mark_the_same.Goals as goal

pub returns : goal.returns
returns g c = λ marks. events_same g.R.Role.rules marks
