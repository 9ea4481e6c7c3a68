-- nothing happens at the places before the first one that isn't idle
use Rattle.std.proofs.Common.{◌<◌, ℕ, IsTrue, get_or, sym, subst, ◌∙◌}
use Rattle.rh_record.specs.declared.answer.Who.TheVariants as who
use Rattle.rh_company.specs.declared.place.Place.TheVariants.{Absent}
use Rattle.rh_company.specs.Company.{rules_of}
use Rattle.rh_company.specs.Places.{is_idle}
use Rattle.rh_nodes.specs.World.{World, tell}
use Rattle.rh_nodes.proofs.Idles.{tell_out_idle}
use Rattle.rh_nodes.proofs.Times.{for_each_idle}
use Rattle.rh_nodes.proofs.nodes.Nodes.tick_outs.Goals as goal

pub outs-init : goal.outs-init
outs-init g c =
    let r = rules_of g.K.Client.Role.rules g.K.Server.Role.rules g.K.InProxy.Role.rules
    g.K.OutProxy.Role.rules in
    let w = c.args.self.now in
    let view = rw (← c.self-inside.view_is) at c.self.view_is in
    let idle = λ (k : ℕ) (below : k < c.first-first.result).
    subst (λ (v : World _ _ _ _ _). IsTrue (is_idle (get_or v.company.outs k Absent))) view
    (c.first-first.ensures.idle k below) in
    rw c.first-first.ensures.same (view ∙ sym (for_each_idle c.first-first.result
    (λ (number : ℕ) (world : World _ _ _ _ _). tell r world (who.Out number) c.args.event.now) w
    (λ k below. tell_out_idle r c.args.event.now w k (idle k below))))
