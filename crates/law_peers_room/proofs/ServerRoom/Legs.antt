-- what holds of each os leg of a server, where one of them changes
use Rattle.law_order.proofs.Vocabulary.{◌≡◌, ◌<◌, ◌≤◌, ℕ, zero, suc, List, [], ◌∷◌, ◌++◌, Some, None, sym, ap, ◌∙◌, subst, arith, slice_get, slice_set, remove, IfSome, AllByRecursion, Option}
use Rattle.law_moves.proofs.Lemmas.{all_append}
use Rattle.law_role_server.proofs.Vocabulary.{OutLeg}
use Rattle.law_role_server.proofs.Each.{each_removed, each_got, each_set}
use Rattle.law_role_server.proofs.Numbered.{one as some_same}

-- ---- any elements

abbrev value : {X : Type 0} → X → Option X → X
value other None = other
value other (Some x) = x

-- ---- legs in the order of their numbers

abbrev pub Above : ℕ → OutLeg → Type 0
Above n leg = n < leg.number

abbrev pub Sorted : List OutLeg → Type 0
Sorted [] = Unit {0}
Sorted (leg ∷ legs) = AllByRecursion (Above leg.number) legs × Sorted legs

pub sorted_set : (legs : List OutLeg) (place : ℕ) (leg new : OutLeg)
    → slice_get legs place ≡ Some leg → new.number ≡ leg.number → Sorted legs
    → Sorted (slice_set legs place new)
sorted_set [] place leg new at same h = tt
sorted_set (x ∷ legs) zero leg new at same h =
    let is : x.number ≡ new.number =
    ap (λ (l : OutLeg). l.number) (some_same x leg at) ∙ sym same in
    (subst (λ (n : ℕ). AllByRecursion (Above n) legs) is h.0, h.1)
sorted_set (x ∷ legs) (suc place) leg new at same h = (
  each_set (Above x.number) legs place new
      (let above = subst (λ o. IfSome o (Above x.number)) at
      (each_got (Above x.number) legs place h.0) in omega (arith, above, same)) h.0,
  sorted_set legs place leg new at same h.1,
)

pub sorted_removed : (legs : List OutLeg) (place : ℕ) → Sorted legs → Sorted (remove legs place)
sorted_removed [] zero h = tt
sorted_removed [] (suc place) h = tt
sorted_removed (leg ∷ legs) zero h = h.1
sorted_removed (leg ∷ legs) (suc place) h =
    (each_removed (Above leg.number) legs place h.0, sorted_removed legs place h.1)

-- one that is above all
pub sorted_pushed : (n : ℕ) (legs : List OutLeg) (new : OutLeg) → n < new.number
    → AllByRecursion (λ (leg : OutLeg). leg.number ≤ n) legs → Sorted legs
    → Sorted (legs ++ new ∷ [])
sorted_pushed n [] new above each h = (tt, tt)
sorted_pushed n (leg ∷ legs) new above each h = (
  all_append (Above leg.number) legs (new ∷ []) h.0
      ((let least = each.0 in omega (arith, least, above)), tt),
  sorted_pushed n legs new above each.1 h.1,
)

-- of the others it holds by their numbers
pub others_so : (P Q : OutLeg → Type 0) (legs : List OutLeg) (place : ℕ) (leg new : OutLeg)
    → slice_get legs place ≡ Some leg → Sorted legs
    → ((other : OutLeg) → (other.number ≡ leg.number → ⊥) → P other → Q other)
    → (P leg → Q new) → AllByRecursion P legs → AllByRecursion Q (slice_set legs place new)
others_so P Q [] place leg new at sorted others is h = tt
others_so P Q (x ∷ legs) zero leg new at sorted others is h =
    (is (subst P same h.0), rest legs sorted.0 h.1)
  where
    same : x ≡ leg
    same = some_same x leg at

    number : x.number ≡ leg.number
    number = ap (λ (l : OutLeg). l.number) same

    rest : (ys : List OutLeg) → AllByRecursion (Above x.number) ys → AllByRecursion P ys
        → AllByRecursion Q ys
    rest [] above p = tt
    rest (y ∷ ys) above p = (
      others y p_apart p.0,
      rest ys above.1 p.1,
    )
      where
        p_apart : y.number ≡ leg.number → ⊥
        p_apart e = let less = above.0 in absurd (omega (arith, less, e, number))
others_so P Q (x ∷ legs) (suc place) leg new at sorted others is h = (
  others x
      (λ e. let above = subst (λ o. IfSome o (Above x.number)) at
      (each_got (Above x.number) legs place sorted.0) in absurd (omega (arith, above, e)))
      h.0,
  others_so P Q legs place leg new at sorted.1 others is h.1,
)
