use Rattle.std.proofs.Common.{◌≡◌, ℕ, sym, ap, ◌∙◌, map}
use Rattle.std.proofs.lemmas.List.Sorted.{IsNonDecreasingBy-from_sort}
use Rattle.std.specs.Prelude.{◌==◌}
use Rattle.std.specs.List.{list_any}
use Rattle.rh_audit.proofs.SortLaws.{any_map, any_sorted}
use Rattle.rh_audit.proofs.kept.sorted_tags.Goals as goal

pub returns : goal.returns
returns c = record {
  sorted = IsNonDecreasingBy-from_sort (λ (x : ℕ). x) _ c.in_ok-sort.ensures.sorted;
  same = λ tag. any_sorted tag _ _ (c.sort.ensures.stable tag)
      ∙ ap (λ tags. list_any (λ other. other == tag) tags) c.in_ok-tags.ensures
      ∙ any_map (λ link. link.tag) (λ other. other == tag) c.args.links.now;
}
