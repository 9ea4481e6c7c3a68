use Rattle.law_moves.proofs.Following.{event_passes}
use Rattle.law_moves.proofs.moving.what_is_logged_passed_on_a_leg.Goals as goal

pub returns : goal.returns
returns g c = event_passes g.R.Role.rules
