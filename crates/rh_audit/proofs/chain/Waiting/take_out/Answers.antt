use Rattle.rh_audit.proofs.Queues.{out_is}
use Rattle.rh_audit.proofs.chain.Waiting.take_out.Goals as goal

pub returns-in-Some-clause-out : goal.returns-in-Some-clause-out
returns-in-Some-clause-out c = λ other.
    out_is _ c.args.cookie.0 _ _ c.remove.ensures.updates.0 other
