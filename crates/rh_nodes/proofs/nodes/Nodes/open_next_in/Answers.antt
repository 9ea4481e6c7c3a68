-- nothing was reported
use Rattle.rh_nodes.proofs.Told.{tells_failed}
use Rattle.rh_nodes.proofs.nodes.Nodes.open_next_in.Goals as goal

pub returns-in_err-push : goal.returns-in_err-push
returns-in_err-push g c =
    tells_failed _ _ c.from_residual-in_err-push.result _ _ _ c.from_residual-in_err-push.ensures.1
    c.in_err-push.ensures.err
