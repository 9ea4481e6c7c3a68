use Rattle.law_world_marks.proofs.Unclosing.{all_go_on}
use Rattle.law_world_marks.proofs.unclosed.nodes_that_nothing_closed_go_on.Goals as goal

pub returns : goal.returns
returns g c = all_go_on
