use Rattle.std.proofs.Common.{◌≡◌, ℕ, List, sym, subst, ◌∙◌, ap}
use Rattle.std.specs.Prelude.{◌==◌}
use Rattle.std.specs.List.{list_any}
use Rattle.std.specs.List.Sorted.{IsNonDecreasing}
use Rattle.rh_audit.specs.declared.link.Link.{Link}
use Rattle.rh_audit.specs.Links.{leg_of}
use Rattle.rh_audit.proofs.SortLaws.{any_map, found_is}
use Rattle.rh_audit.proofs.kept.Chain.has.Goals as goal

pub returns : goal.returns
returns c =
    let kept = c.self.invariant in
    let same = c.as_slice.ensures.value in
    c.is_ok.ensures.value
    ∙ found_is c.as_slice.result.now c.args.tag c.binary_search.result
    c.binary_search.ensures.position (subst IsNonDecreasing (sym same) kept.sorted)
    ∙ ap (λ (tags : List ℕ). list_any (λ other. other == c.args.tag) tags) same
    ∙ kept.same c.args.tag
    ∙ ap (λ (links : List Link). list_any (λ link. link.tag == c.args.tag) links) c.self.view_is
    ∙ sym (any_map leg_of (λ leg. leg.tag == c.args.tag) c.args.self.now)
