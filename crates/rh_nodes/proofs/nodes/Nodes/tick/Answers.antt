-- all nodes were told
use Rattle.std.proofs.Common.{◌≤◌, ap, ◌∙◌, arith}
use Rattle.rh_record.specs.declared.answer.Who.TheVariants as who
use Rattle.rh_company.specs.declared.event.Event.TheVariants.{Passes}
use Rattle.rh_company.specs.Company.{rules_of}
use Rattle.rh_nodes.specs.Time.{at_moment}
use Rattle.rh_nodes.specs.World.{World, tell}
use Rattle.rh_nodes.proofs.Times.{all_told, ticked}
use Rattle.rh_nodes.proofs.nodes.Nodes.tick.Goals as goal

pub returns : goal.returns
returns g c =
    let r = rules_of g.K.Client.Role.rules g.K.Server.Role.rules g.K.InProxy.Role.rules
    g.K.OutProxy.Role.rules in
    let w = c.args.self.now in
    let now = c.args.now in
    let moment = ap (λ (v : World _ _ _ _ _). v.now) c.self.view_is in
    let later : w.now ≤ now = omega (arith, moment, c.if-now-self.false) in
    let first = c.in_ok-tell.ensures
    ∙ ap (λ (v : World _ _ _ _ _). tell r (at_moment now v) who.Client (Passes now)) c.self.view_is
    in
    ticked r w c.tick_outs.new.self now later
    (all_told r (Passes now) (at_moment now w) c.tell.new.self c.tell-2.new.self
    c.tick_ins.new.self c.tick_outs.new.self first c.in_ok-tell-2.ensures
    c.in_ok-tick_ins.ensures c.in_ok-tick_outs.ensures)
