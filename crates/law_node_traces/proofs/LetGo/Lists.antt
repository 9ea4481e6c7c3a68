-- lists that have all legs of a kind, and how long they are at least
use Rattle.law_order.proofs.Vocabulary.{◌≡◌, ◌⊎◌, ◌≤◌, ℕ, suc, ◌+◌, ◌-◌, List, [], ◌∷◌, length, refl, sym, ap, ◌∙◌, inl, inr, ⊎_elim, arith, ◌≢◌}
use Rattle.law_moves.proofs.Vocabulary.{Leg}

abbrev pub IsIn : Leg → List Leg → Type 0
IsIn leg [] = ⊥
IsIn leg (first ∷ list) = (leg ≡ first) ⊎ IsIn leg list

-- a list without one leg that it has
record Others (leg : Leg) (list : List Leg) : Type 0 where
  rest : List Leg
  either : (other : Leg) → IsIn other list → (other ≡ leg) ⊎ IsIn other rest
  shorter : length list ≡ suc (length rest)

others : (leg : Leg) (list : List Leg) → IsIn leg list → Others leg list
others leg [] there = absurd there
others leg (first ∷ list) (inl same) = record {
  rest = list;
  either = λ other there. ⊎_elim (λ is. inl (is ∙ sym same)) (λ behind. inr behind) there;
  shorter = refl;
}
others leg (first ∷ list) (inr behind) =
    let o = others leg list behind in
    record {
      rest = first ∷ o.rest;
      either = λ other there.
          ⊎_elim (λ is. inr (inl is))
          (λ later. ⊎_elim (λ same. inl same) (λ left. inr (inr left)) (o.either other later))
          there;
      shorter = ap suc o.shorter;
    }

-- so many legs at most are so: a list that is no longer has them
pub record AtMost (IsSo : Leg → Type 0) (count : ℕ) : Type 0 where
  pub list : List Leg
  pub has : (leg : Leg) → IsSo leg → IsIn leg list
  pub short : length list ≤ count

module _ (WasSo IsSo : Leg → Type 0) (count : ℕ) (a : AtMost WasSo count) where
  -- no leg more is
  pub at_most_still : ((leg : Leg) → IsSo leg → WasSo leg) → AtMost IsSo count
  at_most_still was =
      record { list = a.list; has = λ leg is. a.has leg (was leg is); short = a.short }

  -- one leg more is
  pub at_most_more : (new : Leg) → ((leg : Leg) → IsSo leg → (leg ≡ new) ⊎ WasSo leg)
      → AtMost IsSo (count + 1)
  at_most_more new was =
      let short = a.short in
      record {
        list = new ∷ a.list;
        has = λ leg is. ⊎_elim (λ same. inl same) (λ old. inr (a.has leg old)) (was leg is);
        short = omega (arith, short);
      }

  -- one leg is not any more
  pub at_most_less : (left : Leg) → WasSo left
      → ((leg : Leg) → IsSo leg → WasSo leg × (leg ≢ left)) → AtMost IsSo (count - 1)
  at_most_less left was_so was =
      let o = others left a.list (a.has left was_so) in
      let short = a.short in
      let shorter = o.shorter in
      record {
        list = o.rest;
        has = λ leg is.
            let both = was leg is in
            ⊎_elim (λ same. absurd (both.1 same)) (λ there. there)
            (o.either leg (a.has leg both.0));
        short = omega (arith, short, shorter);
      }

none_in : (leg : Leg) (list : List Leg) → length list ≤ 0 → IsIn leg list → ⊥
none_in leg [] short there = there
none_in leg (first ∷ list) short there = omega (arith, short)

pub at_most_none : (IsSo : Leg → Type 0) → AtMost IsSo 0 → (leg : Leg) → IsSo leg → ⊥
at_most_none IsSo a leg is = none_in leg a.list a.short (a.has leg is)
