-- what was fed is reported
use Rattle.std.proofs.Common.{refl, sym, ap, ◌∙◌, arith, Ok, Some}
use Rattle.rh_record.specs.declared.answer.Answer.TheVariants.{Move}
use Rattle.rh_company.specs.Company.{rules_of}
use Rattle.rh_nodes.specs.Settling.{carried}
use Rattle.rh_nodes.proofs.Told.{tells_failed}
use Rattle.rh_nodes.proofs.Pushed.{tells_pushed, carried_is}
use Rattle.rh_nodes.proofs.nodes.Nodes.carry.Goals as goal

pub returns-in_err-bytes : goal.returns-in_err-bytes
returns-in_err-bytes g c =
    tells_failed _ _ c.from_residual.result _ _ _ c.from_residual.ensures.1 refl

pub returns-in_err-push : goal.returns-in_err-push
returns-in_err-push g c =
    tells_failed _ _ c.from_residual-in_err-push.result _ _ _
    c.from_residual-in_err-push.ensures.1 c.in_err-push.ensures.err

pub returns-in_ok-push : goal.returns-in_ok-push
returns-in_ok-push g c =
    let r = (rules_of g.K.Client.Role.rules g.K.Server.Role.rules g.K.InProxy.Role.rules
    g.K.OutProxy.Role.rules) in
    let did = ap (λ o. carried c.args.leg c.args.dir (c.carry_bytes.new.self, o)) (sym c.in-Some.is)
    ∙ c.in_ok-bytes.ensures in
    tells_pushed _ (Move (Some c.args.leg) c.args.dir (Some c.in-Some.bytes)) (Ok tt)
    c.carry_bytes.new.self c.args.report.now c.push.new.self
    (carried_is r c.args.leg c.args.dir c.args.self.now c.carry_bytes.new.self c.in-Some.bytes did
    (omega arith)) c.in_ok-push.ensures.ok tt
