-- one call
use Rattle.std.proofs.Common.{refl}
use Rattle.rh_keepers.proofs.Keeping.{kept-call}
use Rattle.rh_keepers.proofs.telling.wants.Goals as goal

pub returns-clause-asked : goal.returns-clause-asked
returns-clause-asked g c = kept-call _ _ c.act-answer.ensures.turn c.act-answer.ensures.acts tt refl
