use Rattle.law_world_free.proofs.Margins.{new_world}
use Rattle.law_world_free.proofs.free.a_new_world_is_free.Goals as goal

pub returns : goal.returns
returns c = new_world
