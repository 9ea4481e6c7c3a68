-- one call, or none
use Rattle.std.proofs.Common.{refl}
use Rattle.rh_keepers.proofs.Keeping.{kept-act}
use Rattle.rh_keepers.proofs.keeper.Keeper.tick_in_time.Goals as goal

pub returns-then-saturating_sub-ge-TICK_AFTER : goal.returns-then-saturating_sub-ge-TICK_AFTER
returns-then-saturating_sub-ge-TICK_AFTER g c = kept-act c.tell_moment.ensures c.now-now.ensures refl
