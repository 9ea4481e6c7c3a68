-- one direction, and then the other
use Rattle.rh_nodes.specs.Settling.{carry}
use Rattle.rh_text.specs.declared.ends.Dir.TheVariants.{U, D}
use Rattle.rh_company.specs.Company.{rules_of}
use Rattle.rh_nodes.proofs.Told.{tells_then, tells_handed}
use Rattle.rh_nodes.proofs.nodes.Nodes.carry_both.Goals as goal

pub returns-in_err-carry : goal.returns-in_err-carry
returns-in_err-carry g c =
    let by = rules_of g.K.Client.Role.rules g.K.Server.Role.rules g.K.InProxy.Role.rules
    g.K.OutProxy.Role.rules in
    tells_handed _ (carry by c.args.leg U c.args.self.now) (carry by c.args.leg D)
    c.from_residual.result _ _ _ _ _
    c.from_residual.ensures.1 c.in_err-carry.ensures

pub returns : goal.returns
returns g c =
    let by = rules_of g.K.Client.Role.rules g.K.Server.Role.rules g.K.InProxy.Role.rules
    g.K.OutProxy.Role.rules in
    tells_then (carry by c.args.leg U c.args.self.now) (carry by c.args.leg D) c.carry-2.result
    c.carry.new.self
    c.carry-2.new.self c.args.report.now c.carry.new.report c.carry-2.new.report
    c.in_ok-carry.ensures.world c.in_ok-carry.ensures.report c.carry-2.ensures
