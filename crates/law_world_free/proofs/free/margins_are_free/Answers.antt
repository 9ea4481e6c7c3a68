use Rattle.law_world_free.proofs.Margins.{world_is_free}
use Rattle.law_world_free.proofs.free.margins_are_free.Goals as goal

pub returns : goal.returns
returns g c = world_is_free
