use Rattle.law_world_ways.proofs.ExactWays.Ended.{none_behind}
use Rattle.law_world_ways.proofs.exact_ways.routes.nothing_is_put_behind_an_end.Goals as goal

pub returns : goal.returns
returns c = none_behind
