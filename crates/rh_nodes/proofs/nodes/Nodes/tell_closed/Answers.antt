-- a front of the lines was added
use Rattle.std.proofs.Common.{sym, ap, ◌∙◌}
use Rattle.rh_company.specs.Closings.{lines}
use Rattle.rh_nodes.specs.Steps.{tell_closed}
use Rattle.rh_nodes.specs.World.{World}
use Rattle.rh_nodes.proofs.Told.{tells_front}
use Rattle.rh_nodes.proofs.nodes.Nodes.tell_closed.Goals as goal

pub returns-in_err-tell : goal.returns-in_err-tell
returns-in_err-tell g c =
    let (front, rest, cut, there) = c.in_err-tell.ensures in
    let same = ap (λ (w : World _ _ _ _ _). lines w.closed) c.self.view_is in
    tells_front _ (tell_closed c.args.self.now) c.from_residual.result _ _ _
    c.from_residual.ensures.1 (front, rest, sym same ∙ cut, there)
