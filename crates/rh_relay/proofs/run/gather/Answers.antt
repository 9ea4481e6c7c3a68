-- there are as many ends as before
use Rattle.std.proofs.Common.{◌∙◌}
use Rattle.rh_relay.proofs.run.gather.Goals as goal

pub loop-done-preserved : goal.loop-done-preserved
loop-done-preserved g c = c.tell.ensures ∙ c.loop-done.invariant
