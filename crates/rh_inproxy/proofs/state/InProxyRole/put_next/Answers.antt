use Rattle.rh_inproxy.specs.Putting.{put_control, put_stream}
use Rattle.rh_inproxy.proofs.Picks.{first_goes, none_begun, other_goes}
use Rattle.rh_inproxy.proofs.state.InProxyRole.put_next.Goals as goal

pub put_stream-requires : goal.put_stream-requires
put_stream-requires c =
    let s = c.args.self.now in
    none_begun s c.put_control.new.self c.put_control.new.begun c.put_control.result (put_control s)
    (record { put = c.put_control.ensures.put; told = c.put_control.ensures.told })
    c.if-put_control.false

pub returns-then-put_control-clause-put : goal.returns-then-put_control-clause-put
returns-then-put_control-clause-put c =
    let s = c.args.self.now in
    (first_goes s c.put_control.new.self c.put_control.new.begun c.put_control.result
    (put_control s) (put_stream s)
    (record { put = c.put_control.ensures.put; told = c.put_control.ensures.told })
    c.if-put_control.true).put

pub returns-then-put_control-clause-told : goal.returns-then-put_control-clause-told
returns-then-put_control-clause-told c =
    let s = c.args.self.now in
    (first_goes s c.put_control.new.self c.put_control.new.begun c.put_control.result
    (put_control s) (put_stream s)
    (record { put = c.put_control.ensures.put; told = c.put_control.ensures.told })
    c.if-put_control.true).told

pub returns-else-put_control-clause-put : goal.returns-else-put_control-clause-put
returns-else-put_control-clause-put c =
    let s = c.args.self.now in
    (other_goes s c.put_control.new.self c.put_stream.new.self c.put_control.new.begun
    c.put_stream.new.begun
    c.put_control.result c.put_stream.result (put_control s) put_stream
    (record { put = c.put_control.ensures.put; told = c.put_control.ensures.told })
    c.if-put_control.false
    (record { put = c.put_stream.ensures.put; told = c.put_stream.ensures.told })).put

pub returns-else-put_control-clause-told : goal.returns-else-put_control-clause-told
returns-else-put_control-clause-told c =
    let s = c.args.self.now in
    (other_goes s c.put_control.new.self c.put_stream.new.self c.put_control.new.begun
    c.put_stream.new.begun
    c.put_control.result c.put_stream.result (put_control s) put_stream
    (record { put = c.put_control.ensures.put; told = c.put_control.ensures.told })
    c.if-put_control.false
    (record { put = c.put_stream.ensures.put; told = c.put_stream.ensures.told })).told
