use Rattle.law_world_free.proofs.Hops.{none_left}
use Rattle.law_world_free.proofs.hop.a_drained_hop_leaves_nothing.Goals as goal

pub returns : goal.returns
returns c = none_left
