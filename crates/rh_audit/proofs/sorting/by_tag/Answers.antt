use Rattle.std.proofs.Common.{rules, sym, ap, ◌∙◌, length}
use Rattle.std.proofs.lemmas.List.Sorted.{IsNonDecreasingBy-from_sort_by_key, answers_always, length_permutation}
use Rattle.rh_audit.specs.Captures.{of_tag}
use Rattle.rh_audit.proofs.SortLaws.{rising_from, tags_kept}
use Rattle.rh_audit.proofs.sorting.by_tag.Goals as goal

pub returns-clause-rising : goal.returns-clause-rising
returns-clause-rising c =
    rising_from _
    (IsNonDecreasingBy-from_sort_by_key (λ p. p.tag) _ c.in_ok-sort_by_key.ensures.sorted
    (λ a r q k. search rules))

pub returns-clause-tags : goal.returns-clause-tags
returns-clause-tags c = λ tag.
    tags_kept _ _
    (c.sort_by_key.ensures.stable (λ p. p.tag)
    (answers_always _ _ _ (λ f a r g h. search rules)))
    (length_permutation _ _ c.sort_by_key.ensures.permutation) tag
    ∙ ap (of_tag tag) c.in_ok-pieces.ensures
