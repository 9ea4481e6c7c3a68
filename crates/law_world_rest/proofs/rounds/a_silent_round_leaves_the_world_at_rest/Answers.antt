use Rattle.law_world_rest.proofs.SilentRounds.{rests, same}
use Rattle.law_world_rest.proofs.rounds.a_silent_round_leaves_the_world_at_rest.Goals as goal

pub returns : goal.returns
returns g c = record { same = same; rest = rests }
