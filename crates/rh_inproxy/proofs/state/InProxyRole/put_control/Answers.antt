use Rattle.rh_inproxy.specs.Acknowledging.{put_acks}
use Rattle.rh_inproxy.specs.Putting.{put_early}
use Rattle.rh_inproxy.proofs.Picks.{first_goes, other_goes}
use Rattle.rh_inproxy.proofs.state.InProxyRole.put_control.Goals as goal

pub returns-then-put_early-clause-put : goal.returns-then-put_early-clause-put
returns-then-put_early-clause-put c =
    let s = c.args.self.now in
    (first_goes s c.put_early.new.self c.put_early.new.begun c.put_early.result (put_early s)
    (put_acks s)
    (record { put = c.put_early.ensures.put; told = c.put_early.ensures.told })
    c.if-put_early.true).put

pub returns-then-put_early-clause-told : goal.returns-then-put_early-clause-told
returns-then-put_early-clause-told c =
    let s = c.args.self.now in
    (first_goes s c.put_early.new.self c.put_early.new.begun c.put_early.result (put_early s)
    (put_acks s)
    (record { put = c.put_early.ensures.put; told = c.put_early.ensures.told })
    c.if-put_early.true).told

pub returns-else-put_early-clause-put : goal.returns-else-put_early-clause-put
returns-else-put_early-clause-put c =
    let s = c.args.self.now in
    (other_goes s c.put_early.new.self c.put_acks.new.self c.put_early.new.begun
    c.put_acks.new.begun
    c.put_early.result c.put_acks.result (put_early s) put_acks
    (record { put = c.put_early.ensures.put; told = c.put_early.ensures.told })
    c.if-put_early.false
    (record { put = c.put_acks.ensures.put; told = c.put_acks.ensures.told })).put

pub returns-else-put_early-clause-told : goal.returns-else-put_early-clause-told
returns-else-put_early-clause-told c =
    let s = c.args.self.now in
    (other_goes s c.put_early.new.self c.put_acks.new.self c.put_early.new.begun
    c.put_acks.new.begun
    c.put_early.result c.put_acks.result (put_early s) put_acks
    (record { put = c.put_early.ensures.put; told = c.put_early.ensures.told })
    c.if-put_early.false
    (record { put = c.put_acks.ensures.put; told = c.put_acks.ensures.told })).told
