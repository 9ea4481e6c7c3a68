use Rattle.rh_audit.proofs.Queues.{put_is}
use Rattle.rh_audit.proofs.chain.Waiting.put_back.Goals as goal

pub returns : goal.returns
returns c = λ other.
    put_is _ c.args.cookie.0 _ _ c.args.queue
    c.in_ok-insert.ensures.updates.0 other
