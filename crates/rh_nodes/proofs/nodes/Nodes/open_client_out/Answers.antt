-- the client wants the leg, and its proxy was not made
use Rattle.std.proofs.Common.{◌≡◌, ◌<◌, Bool, true, nat_lt, ap, subst, arith}
use Rattle.std.specs.Prelude.{IfOk}
use Rattle.std.proofs.lemmas.Bool.{lt-ltb}
use Rattle.rh_record.specs.declared.answer.Who.TheVariants as who
use Rattle.rh_wires.specs.Numbered.{ask}
use Rattle.rh_company.specs.Company as company
use Rattle.rh_company.specs.Company.{rules_of}
use Rattle.rh_company.specs.Places.{is_absent}
use Rattle.rh_nodes.specs.World.{World}
use Rattle.rh_nodes.proofs.Opened.{all_three, made_out}
use Rattle.rh_nodes.proofs.nodes.Nodes.open_client_out.Goals as goal

pub returns : goal.returns
returns g c =
    let r = rules_of g.K.Client.Role.rules g.K.Server.Role.rules g.K.InProxy.Role.rules
    g.K.OutProxy.Role.rules in
    let w = c.args.self.now in
    let leg = c.args.leg in
    let view = rw (← c.self-inside.view_is) at c.self.view_is in
    let numbered : 0 < leg.number = omega (arith, c.if-leg-eq0.false) in
    let asked = c.wants.ensures in
    let yes = c.if-not-wants.false in
    let there = ap (λ (v : World _ _ _ _ _). company.wants r v.company who.Client leg)
    c.self.view_is in
    let wanted : company.wants r w.company who.Client leg ≡ true = cc in
    let looked = c.is_absent.ensures in
    let none = c.if-not-is_absent.false in
    let place = ap (λ (v : World _ _ _ _ _). ask is_absent true v.company.outs leg.number) view in
    let absent : ask is_absent true w.company.outs leg.number ≡ true = cc in
    let may =
    all_three (nat_lt 0 leg.number) (company.wants r w.company who.Client leg)
    (ask is_absent true w.company.outs leg.number) (lt-ltb 0 leg.number numbered) wanted absent in
    subst (λ (did : World _ _ _ _ _ × Bool). IfOk c.open_out_to_new.result
    (λ ok. (c.open_out_to_new.new.self, ok) ≡ did))
    (made_out r g.K.Cast.out_proxy w leg may) c.open_out_to_new.ensures
