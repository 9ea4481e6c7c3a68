use Rattle.rh_inproxy.specs.Passing.{put_pdu}
use Rattle.rh_inproxy.specs.Putting.{put_behind}
use Rattle.rh_inproxy.proofs.Picks.{first_goes, none_begun, other_goes}
use Rattle.rh_inproxy.proofs.state.InProxyRole.put_stream.Goals as goal

pub put_behind-requires : goal.put_behind-requires
put_behind-requires c =
    let s = c.args.self.now in
    none_begun s c.put_pdu.new.self c.put_pdu.new.begun c.put_pdu.result (put_pdu s)
    (record { put = c.put_pdu.ensures.put; told = c.put_pdu.ensures.told })
    c.if-put_pdu.false

pub returns-then-put_pdu-clause-put : goal.returns-then-put_pdu-clause-put
returns-then-put_pdu-clause-put c =
    let s = c.args.self.now in
    (first_goes s c.put_pdu.new.self c.put_pdu.new.begun c.put_pdu.result (put_pdu s) (put_behind s)
    (record { put = c.put_pdu.ensures.put; told = c.put_pdu.ensures.told })
    c.if-put_pdu.true).put

pub returns-then-put_pdu-clause-told : goal.returns-then-put_pdu-clause-told
returns-then-put_pdu-clause-told c =
    let s = c.args.self.now in
    (first_goes s c.put_pdu.new.self c.put_pdu.new.begun c.put_pdu.result (put_pdu s) (put_behind s)
    (record { put = c.put_pdu.ensures.put; told = c.put_pdu.ensures.told })
    c.if-put_pdu.true).told

pub returns-else-put_pdu-clause-put : goal.returns-else-put_pdu-clause-put
returns-else-put_pdu-clause-put c =
    let s = c.args.self.now in
    (other_goes s c.put_pdu.new.self c.put_behind.new.self c.put_pdu.new.begun
    c.put_behind.new.begun
    c.put_pdu.result c.put_behind.result (put_pdu s) put_behind
    (record { put = c.put_pdu.ensures.put; told = c.put_pdu.ensures.told })
    c.if-put_pdu.false
    (record { put = c.put_behind.ensures.put; told = c.put_behind.ensures.told })).put

pub returns-else-put_pdu-clause-told : goal.returns-else-put_pdu-clause-told
returns-else-put_pdu-clause-told c =
    let s = c.args.self.now in
    (other_goes s c.put_pdu.new.self c.put_behind.new.self c.put_pdu.new.begun
    c.put_behind.new.begun
    c.put_pdu.result c.put_behind.result (put_pdu s) put_behind
    (record { put = c.put_pdu.ensures.put; told = c.put_pdu.ensures.told })
    c.if-put_pdu.false
    (record { put = c.put_behind.ensures.put; told = c.put_behind.ensures.told })).told
