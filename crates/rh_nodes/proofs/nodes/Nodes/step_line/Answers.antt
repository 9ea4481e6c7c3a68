-- the answer was added, or could not be
use Rattle.std.proofs.Common.{sym, ap, ◌∙◌}
use Rattle.std.specs.declared.option.Option.{Option}
use Rattle.rh_record.specs.declared.answer.Answer.{Answer}
use Rattle.rh_company.specs.Company.{rules_of}
use Rattle.rh_nodes.specs.Giving.{deeds_of}
use Rattle.rh_nodes.specs.Opening.{makers_of}
use Rattle.rh_nodes.specs.Steps.{reported, step_line}
use Rattle.rh_nodes.specs.World.{World}
use Rattle.rh_nodes.proofs.OtherLines.{other_line}
use Rattle.rh_nodes.proofs.Pushed.{tells_pushed}
use Rattle.rh_nodes.proofs.nodes.Nodes.step_line.Goals as goal

pub returns-in-Some : goal.returns-in-Some
returns-in-Some g c =
    let r = rules_of g.K.Client.Role.rules g.K.Server.Role.rules g.K.InProxy.Role.rules
    g.K.OutProxy.Role.rules in
    let m = makers_of g.K.Cast.in_proxy g.K.Cast.out_proxy in
    let d = deeds_of g.K.Client.EndRole.acts g.K.Server.EndRole.acts in
    let w = c.args.self.now in
    let line = c.args.line.now in
    let next = c.answer.new.self in
    let did = sym c.in_ok-answer.ensures ∙ ap (λ (o : Option Answer). (next, o)) c.in-Some.is in
    tells_pushed (step_line r m d line w) c.in-Some.answer c.push.result next c.args.report.now
    c.push.new.self
    (other_line r m d line w c.in_default.not-Settle
    ∙ ap (λ (did : World _ _ _ _ _ × Option Answer). reported did) did)
    c.push.ensures.ok c.push.ensures.err
