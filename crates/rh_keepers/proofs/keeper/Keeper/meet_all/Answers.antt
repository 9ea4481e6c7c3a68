-- the callers, one after the other
use Rattle.rh_keepers.proofs.Keeping.{kept-none, kept-then}
use Rattle.rh_keepers.proofs.keeper.Keeper.meet_all.Goals as goal

pub callers-init : goal.callers-init
callers-init g c = kept-none

pub callers-preserved : goal.callers-preserved
callers-preserved g c = kept-then c.callers.invariant c.meet.ensures
