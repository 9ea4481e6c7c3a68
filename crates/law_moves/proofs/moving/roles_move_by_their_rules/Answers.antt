use Rattle.law_moves.proofs.Following.{event_follows, run_follows}
use Rattle.law_moves.proofs.moving.roles_move_by_their_rules.Goals as goal

pub returns : goal.returns
returns g c = record {
  event = event_follows g.R.Role.rules;
  run = run_follows g.R.Role.rules;
}
