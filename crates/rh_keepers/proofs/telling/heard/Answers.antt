-- one call
use Rattle.std.proofs.Common.{refl}
use Rattle.rh_keepers.proofs.Keeping.{kept-call}
use Rattle.rh_keepers.proofs.telling.heard.Goals as goal

pub returns : goal.returns
returns g c = kept-call _ _ c.act.ensures.turn c.act.ensures.acts tt refl
