-- the number behind the greatest one
use Rattle.std.proofs.Common.{◌≤◌, ℕ, [], nat_le, max, length, ap, ◌∙◌, subst, arith}
use Rattle.std.proofs.lemmas.Bool.{le-leb}
use Rattle.rh_line.specs.declared.leg.LegKind.TheVariants.{ClientOut}
use Rattle.rh_company.specs.Company.{rules_of}
use Rattle.rh_nodes.specs.Opening.{makers_of}
use Rattle.rh_nodes.specs.Reports.{Tells}
use Rattle.rh_nodes.specs.Settling.{open_next, leg_at, next_number}
use Rattle.rh_nodes.specs.World.{World}
use Rattle.rh_nodes.proofs.Told.{tells_if}
use Rattle.rh_nodes.proofs.nodes.Nodes.open_client_outs.Goals as goal

pub returns : goal.returns
returns g c =
    let r = rules_of g.K.Client.Role.rules g.K.Server.Role.rules g.K.InProxy.Role.rules
    g.K.OutProxy.Role.rules in
    let m = makers_of g.K.Cast.in_proxy g.K.Cast.out_proxy in
    let w = c.args.self.now in
    let next = next_number (length w.legs.client_out) in
    let count = c.len.ensures.len ∙ ap (λ (v : World _ _ _ _ _). length v.legs.client_out)
    c.self.view_is in
    let number = c.max-number.ensures ∙ ap (λ (n : ℕ). max n 1) count in
    let most : next ≤ 4294967295 = omega (arith, number, c.from.ensures, c.if-number-from.false) in
    tells_if (nat_le next 4294967295) (open_next r m (leg_at ClientOut next) w) (w, [])
    c.open_next.result c.open_next.new.self c.args.report.now c.open_next.new.report
    (le-leb next 4294967295 most)
    (subst (λ (n : ℕ). Tells (open_next r m (leg_at ClientOut n) w) c.open_next.result
    c.open_next.new.self
    c.args.report.now c.open_next.new.report) number
    c.open_next.ensures)
