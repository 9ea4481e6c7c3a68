use Rattle.law_moves.proofs.EndFollowing.{end_event_passes}
use Rattle.law_moves.proofs.moving.what_is_logged_passed_at_an_end.Goals as goal

pub returns : goal.returns
returns g c = end_event_passes g.R.Role.rules g.R.EndRole.acts
