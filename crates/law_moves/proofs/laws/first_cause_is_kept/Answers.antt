use Rattle.law_moves.proofs.ClosedNodes.{stays}
use Rattle.law_moves.proofs.laws.first_cause_is_kept.Goals as goal

pub returns : goal.returns
returns g c = λ node why h. stays g.R.Role.rules node why h
