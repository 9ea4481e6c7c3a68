-- one call
use Rattle.std.proofs.Common.{refl}
use Rattle.rh_keepers.proofs.Keeping.{kept-act}
use Rattle.rh_keepers.proofs.keeper.Keeper.tick.Goals as goal

pub returns : goal.returns
returns g c = kept-act c.tell_moment.ensures c.now-now.ensures refl
