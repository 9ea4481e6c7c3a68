-- it asked, and waited on
use Rattle.rh_keepers.proofs.Keeping.{asked-then, kept-asked, kept-none, kept-then}
use Rattle.rh_keepers.proofs.proxy.next_of.Goals as goal

pub waits-init : goal.waits-init
waits-init g c = kept-none

pub returns-then-not-is_live-clause-kept : goal.returns-then-not-is_live-clause-kept
returns-then-not-is_live-clause-kept g c =
    kept-then c.waits.invariant (kept-asked c.is_live.ensures)

pub returns-then-not-is_live-clause-left : goal.returns-then-not-is_live-clause-left
returns-then-not-is_live-clause-left g c = asked-then c.waits.invariant c.is_live.ensures

pub waits-preserved : goal.waits-preserved
waits-preserved g c = kept-then c.waits.invariant (kept-asked c.is_live.ensures)
