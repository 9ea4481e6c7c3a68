use Rattle.std.proofs.Common.{sym, ◌∙◌}
use Rattle.rh_inproxy.specs.Putting.{next}
use Rattle.rh_inproxy.proofs.Picks.{settled_put, unsettled_put}
use Rattle.rh_inproxy.proofs.state.InProxyRole.put_on_server_leg.Goals as goal

pub returns-then-put_next : goal.returns-then-put_next
returns-then-put_next c =
    let s = c.args.self.now in
    rw c.settle.ensures
    (settled_put s c.put_next.new.self c.put_next.new.begun (next s) c.put_next.ensures.put
    (sym c.put_next.ensures.told ∙ c.if-put_next.true))

pub returns-else-put_next : goal.returns-else-put_next
returns-else-put_next c =
    let s = c.args.self.now in
    unsettled_put s c.put_next.new.self c.put_next.new.begun (next s) c.put_next.ensures.put
    (sym c.put_next.ensures.told ∙ c.if-put_next.false)
