-- one number after the other
use Rattle.std.proofs.Common.{◌<◌, ℕ, IsTrue, length, get_or, ap, subst, arith}
use Rattle.rh_line.specs.declared.leg.LegKind.TheVariants.{InServer}
use Rattle.rh_company.specs.declared.place.Place.TheVariants.{Absent}
use Rattle.rh_company.specs.Company.{rules_of}
use Rattle.rh_company.specs.Places.{is_idle}
use Rattle.rh_nodes.specs.Opening.{makers_of}
use Rattle.rh_nodes.specs.Settling.{open_next, leg_at}
use Rattle.rh_nodes.specs.World.{World}
use Rattle.rh_nodes.proofs.Idles.{open_in_idle}
use Rattle.rh_nodes.proofs.Told.{reached_first, reached_more, reached_handed}
use Rattle.rh_nodes.proofs.nodes.Nodes.open_in_servers.Goals as goal

pub legs-init : goal.legs-init
legs-init g c =
    let r = rules_of g.K.Client.Role.rules g.K.Server.Role.rules g.K.InProxy.Role.rules
    g.K.OutProxy.Role.rules in
    let m = makers_of g.K.Cast.in_proxy g.K.Cast.out_proxy in
    let w = c.args.self.now in
    let view = rw (← c.self-inside.view_is) at c.self.view_is in
    let idle = λ (k : ℕ) (below : k < c.first-first.result).
    subst (λ (v : World _ _ _ _ _). IsTrue (is_idle (get_or v.company.ins k Absent))) view
    (c.first-first.ensures.idle k below) in
    reached_first c.first-first.result (λ (number : ℕ). open_next r m (leg_at InServer number)) w _
    c.args.report.now (rw c.first-first.ensures.same view)
    (λ k below. open_in_idle r m w k (idle k below))

pub legs-preserved : goal.legs-preserved
legs-preserved g c =
    let r = rules_of g.K.Client.Role.rules g.K.Server.Role.rules g.K.InProxy.Role.rules
    g.K.OutProxy.Role.rules in
    let m = makers_of g.K.Cast.in_proxy g.K.Cast.out_proxy in
    reached_more c.legs.number (λ (number : ℕ). open_next r m (leg_at InServer number))
    c.args.self.now
    c.legs.self c.open_next.new.self c.args.report.now c.legs.report c.open_next.new.report
    c.legs.invariant c.in_ok-open_next.ensures

pub returns-in_err-open_next : goal.returns-in_err-open_next
returns-in_err-open_next g c =
    let r = rules_of g.K.Client.Role.rules g.K.Server.Role.rules g.K.InProxy.Role.rules
    g.K.OutProxy.Role.rules in
    let m = makers_of g.K.Cast.in_proxy g.K.Cast.out_proxy in
    let w = c.args.self.now in
    let whole = length w.company.ins in
    let same = ap length c.first-first.ensures.same in
    let view = rw (← c.self-inside.view_is) at c.self.view_is in
    let seen = ap (λ (v : World _ _ _ _ _). length v.company.ins) view in
    let below : c.legs.number < whole =
    omega (arith, same, seen, c.len-len.ensures.len, c.legs-test.true) in
    reached_handed _ c.legs.number whole (λ (number : ℕ). open_next r m (leg_at InServer number)) w
    c.legs.self c.open_next.new.self c.open_next.new.self c.args.report.now c.legs.report
    c.open_next.new.report c.from_residual.result _ below c.from_residual.ensures.1
    c.legs.invariant c.in_err-open_next.ensures
