-- one number after the other
use Rattle.std.proofs.Common.{◌<◌, ℕ, IsTrue, length, get_or, ap, subst, arith}
use Rattle.rh_text.specs.declared.ends.Side.TheVariants.{Client, Server}
use Rattle.rh_wires.specs.declared.legs.Legs.{Legs}
use Rattle.rh_wires.specs.Legs as legs
use Rattle.rh_wires.specs.Wires.{blank, is_low}
use Rattle.rh_company.specs.Company.{rules_of}
use Rattle.rh_nodes.specs.Settling.{carry_both, leg_at}
use Rattle.rh_nodes.specs.World.{World}
use Rattle.rh_nodes.proofs.Lows.{low_ask, carry_both_low}
use Rattle.rh_nodes.proofs.Told.{reached_first, reached_more, reached_handed}
use Rattle.rh_nodes.proofs.nodes.Nodes.carry_kind.Goals as goal

pub legs-init : goal.legs-init
legs-init g c =
    let r = rules_of g.K.Client.Role.rules g.K.Server.Role.rules g.K.InProxy.Role.rules
    g.K.OutProxy.Role.rules in
    let w = c.args.self.now in
    let low = λ (k : ℕ) (below : k < c.first-first.result).
    subst (λ (v : World _ _ _ _ _).
    IsTrue (is_low (get_or (legs.of c.args.kind v.legs) k blank))) c.self.view_is
    (c.first-first.ensures.down k below) in
    reached_first c.first-first.result (λ (number : ℕ). carry_both r (leg_at c.args.kind number)) w
    _ c.args.report.now (rw c.first-first.ensures.same c.self.view_is)
    (λ k below. carry_both_low r (leg_at c.args.kind k) w
    (low_ask (legs.of c.args.kind w.legs) k Client (low k below))
    (low_ask (legs.of c.args.kind w.legs) k Server (low k below)))

pub legs-preserved : goal.legs-preserved
legs-preserved g c =
    let r = rules_of g.K.Client.Role.rules g.K.Server.Role.rules g.K.InProxy.Role.rules
    g.K.OutProxy.Role.rules in
    reached_more c.legs.number (λ (number : ℕ). carry_both r (leg_at c.args.kind number))
    c.args.self.now
    c.legs.self c.carry_both.new.self c.args.report.now c.legs.report c.carry_both.new.report
    c.legs.invariant c.in_ok-carry_both.ensures

pub returns-in_err-carry_both : goal.returns-in_err-carry_both
returns-in_err-carry_both g c =
    let r = rules_of g.K.Client.Role.rules g.K.Server.Role.rules g.K.InProxy.Role.rules
    g.K.OutProxy.Role.rules in
    let w = c.args.self.now in
    let whole = length (legs.of c.args.kind w.legs) in
    let same = ap (λ (x : Legs). length (legs.of c.args.kind x)) c.first-first.ensures.same in
    let seen = ap (λ (v : World _ _ _ _ _). length (legs.of c.args.kind v.legs)) c.self.view_is in
    let below : c.legs.number < whole =
    omega (arith, same, seen, c.len-len.ensures.len, c.legs-test.true) in
    reached_handed _ c.legs.number whole (λ (number : ℕ). carry_both r (leg_at c.args.kind number))
    w c.legs.self c.carry_both.new.self c.carry_both.new.self c.args.report.now c.legs.report
    c.carry_both.new.report c.from_residual.result _ below c.from_residual.ensures.1
    c.legs.invariant c.in_err-carry_both.ensures
