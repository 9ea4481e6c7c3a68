use Rattle.law_world_ways.proofs.ExactWays.Pdus.{all_on_path}
use Rattle.law_world_ways.proofs.exact_ways.routes.pdus_on_all_legs_are_on_their_way.Goals as goal

pub returns : goal.returns
returns c = all_on_path
