use Rattle.law_moves.proofs.EndFollowing.{end_event_follows, end_run_follows}
use Rattle.law_moves.proofs.moving.ends_move_by_their_rules.Goals as goal

pub returns : goal.returns
returns g c = record {
  event = end_event_follows g.R.Role.rules g.R.EndRole.acts;
  run = end_run_follows g.R.Role.rules g.R.EndRole.acts;
}
