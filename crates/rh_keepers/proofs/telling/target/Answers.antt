-- one call
use Rattle.std.proofs.Common.{refl}
use Rattle.rh_keepers.proofs.Keeping.{kept-call}
use Rattle.rh_keepers.proofs.telling.target.Goals as goal

pub returns-clause-asked : goal.returns-clause-asked
returns-clause-asked g c = kept-call _ _ c.act.ensures.turn c.act.ensures.acts tt refl
