use Rattle.rh_inproxy.specs.State.{InProxy}
use Rattle.rh_inproxy.specs.Acknowledging.{current_ack, next_ack}
use Rattle.rh_inproxy.proofs.Picks.{other_goes}
use Rattle.rh_inproxy.proofs.state.InProxyRole.put_acks.Goals as goal

pub returns-else-put_current_ack-clause-put : goal.returns-else-put_current_ack-clause-put
returns-else-put_current_ack-clause-put c =
    let s = c.args.self.now in
    (other_goes s c.put_current_ack.new.self c.put_next_ack.new.self
    c.put_current_ack.new.begun c.put_next_ack.new.begun c.put_current_ack.result
    c.put_next_ack.result (current_ack s) (λ (k : InProxy). next_ack k k.successor)
    (record { put = c.put_current_ack.ensures.put; told = c.put_current_ack.ensures.told })
    c.if-put_current_ack.false
    (record { put = c.put_next_ack.ensures.put; told = c.put_next_ack.ensures.told })).put

pub returns-else-put_current_ack-clause-told : goal.returns-else-put_current_ack-clause-told
returns-else-put_current_ack-clause-told c =
    let s = c.args.self.now in
    (other_goes s c.put_current_ack.new.self c.put_next_ack.new.self
    c.put_current_ack.new.begun c.put_next_ack.new.begun c.put_current_ack.result
    c.put_next_ack.result (current_ack s) (λ (k : InProxy). next_ack k k.successor)
    (record { put = c.put_current_ack.ensures.put; told = c.put_current_ack.ensures.told })
    c.if-put_current_ack.false
    (record { put = c.put_next_ack.ensures.put; told = c.put_next_ack.ensures.told })).told
