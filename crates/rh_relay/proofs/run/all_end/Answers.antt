-- one end more
use Rattle.rh_relay.proofs.Ends.{one-more}
use Rattle.rh_relay.proofs.run.all_end.Goals as goal

pub loop-at-preserved : goal.loop-at-preserved
loop-at-preserved c = one-more c.args.end _ _ c.loop-at.at
    c.loop-at.invariant.count c.loop-at.invariant.all c.in_ok-push.ensures.items
