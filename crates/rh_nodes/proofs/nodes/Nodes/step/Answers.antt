-- the line, and then the nodes that it closed
use Rattle.rh_company.specs.Company.{rules_of}
use Rattle.rh_nodes.specs.Giving.{deeds_of}
use Rattle.rh_nodes.specs.Opening.{makers_of}
use Rattle.rh_nodes.specs.Steps.{step_line, tell_closed}
use Rattle.rh_nodes.specs.World.{World}
use Rattle.rh_nodes.proofs.Told.{tells_then, tells_handed}
use Rattle.rh_nodes.proofs.nodes.Nodes.step.Goals as goal

pub returns-in_err-step_line : goal.returns-in_err-step_line
returns-in_err-step_line g c =
    let r = rules_of g.K.Client.Role.rules g.K.Server.Role.rules g.K.InProxy.Role.rules
    g.K.OutProxy.Role.rules in
    let m = makers_of g.K.Cast.in_proxy g.K.Cast.out_proxy in
    let d = deeds_of g.K.Client.EndRole.acts g.K.Server.EndRole.acts in
    tells_handed _ (step_line r m d c.args.line.now c.args.self.now)
    (λ (w : World _ _ _ _ _). tell_closed w) c.from_residual.result _ _ _ _ _
    c.from_residual.ensures.1 c.in_err-step_line.ensures

pub returns : goal.returns
returns g c =
    let r = rules_of g.K.Client.Role.rules g.K.Server.Role.rules g.K.InProxy.Role.rules
    g.K.OutProxy.Role.rules in
    let m = makers_of g.K.Cast.in_proxy g.K.Cast.out_proxy in
    let d = deeds_of g.K.Client.EndRole.acts g.K.Server.EndRole.acts in
    tells_then (step_line r m d c.args.line.now c.args.self.now)
    (λ (w : World _ _ _ _ _). tell_closed w) c.tell_closed.result c.step_line.new.self
    c.tell_closed.new.self c.args.report.now c.step_line.new.report c.tell_closed.new.report
    c.in_ok-step_line.ensures.world c.in_ok-step_line.ensures.report c.tell_closed.ensures
