-- the end of a leg is reported
use Rattle.std.proofs.Common.{refl, sym, ◌∙◌}
use Rattle.rh_record.specs.declared.answer.Answer.TheVariants.{EndLeg}
use Rattle.rh_company.specs.Company.{rules_of}
use Rattle.rh_nodes.proofs.Told.{tells_failed}
use Rattle.rh_nodes.proofs.Pushed.{tells_pushed, ended_is}
use Rattle.rh_nodes.proofs.nodes.Nodes.end_one.Goals as goal

pub returns-in_err-ok : goal.returns-in_err-ok
returns-in_err-ok g c =
    tells_failed _ _ c.from_residual.result _ _ _ c.from_residual.ensures.1 refl

pub returns : goal.returns
returns g c =
    let r = (rules_of g.K.Client.Role.rules g.K.Server.Role.rules g.K.InProxy.Role.rules
    g.K.OutProxy.Role.rules) in
    tells_pushed _ (EndLeg c.args.leg c.in-Some.dir c.in_ok-ok.ok) c.push.result
    c.end_leg.new.self c.args.report.now c.push.new.self
    (ended_is r c.args.leg c.args.self.now c.end_leg.new.self c.in-Some.dir c.in_ok-ok.ok
    (sym c.ends_now.ensures ∙ c.in-Some.is) c.in_ok-ok.ensures)
    c.push.ensures.ok c.push.ensures.err
