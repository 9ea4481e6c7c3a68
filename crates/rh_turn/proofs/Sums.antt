-- Sums over the views of all seats, and how often a place stands in a list.
use Rattle.std.proofs.Common.{◌≡◌, ℕ, zero, suc, ◌+◌, ◌<◌, ◌≤◌, true, false, List, [], ◌∷◌, ◌++◌, length, get_or, set, refl, sym, subst, arith}
use Rattle.std.specs.Prelude.{◌==◌, nat_lt, Bool}
use Rattle.std.specs.List.{sum_by}
use Rattle.std.proofs.lemmas.Bool.Decides.{nat_tests}
use Rattle.std.proofs.lemmas.List.Sums.{sum_by-set, sum_by-cons, sum_by_push, get_or-le-sum_by}
use mathlib.Core.Option.{some, some-injective, some-ne-none}
use lib.ListN.{get_elem?}
use Rattle.rh_turn.specs.History.{times, one_if}

module _ {V : Type 0} where
  -- what stands at an index
  read_at : (xs : List V) (i : ℕ) (v : V) → get_elem? xs i ≡ some v
      → (i < length xs) × (get_or xs i v ≡ v)
  read_at [] i v at = absurd (some-ne-none v (sym at))
  read_at (x ∷ xs) zero v at = (omega arith, some-injective x v at)
  read_at (x ∷ xs) (suc i) v at = let r = read_at xs i v at in (omega arith, r.1)

  -- a changed view changes the sum by its own part
  pub sum_set : (f : V → ℕ) (views : List V) (i : ℕ) (v w : V) → get_elem? views i ≡ some v
      → sum_by f (set views i w) + f v ≡ sum_by f views + f w
  sum_set f views i v w at =
      let r = read_at views i v at in
      subst (λ u. sum_by f (set views i w) + f u ≡ sum_by f views + f w) r.1
      (sum_by-set f views i w v r.0)

  -- one view's part is at most the sum
  pub sum_at : (f : V → ℕ) (views : List V) (i : ℕ) (v : V) → get_elem? views i ≡ some v
      → f v ≤ sum_by f views
  sum_at f views i v at =
      let r = read_at views i v at in
      subst (λ u. f u ≤ sum_by f views) r.1 (get_or-le-sum_by f views i v r.0)

  -- where no view has a part, the sum is 0
  pub sum_none : (f : V → ℕ) (views : List V)
      → ((i : ℕ) (v : V) → get_elem? views i ≡ some v → f v ≡ 0) → sum_by f views ≡ 0
  sum_none f [] each = refl
  sum_none f (x ∷ xs) each =
      let here : f x ≡ 0 = each 0 x refl in
      let rest = sum_none f xs (λ i v at. each (suc i) v at) in
      omega (arith, sum_by-cons f x xs)

pub one_if-most : (b : Bool) → one_if b ≤ 1
one_if-most true = omega arith
one_if-most false = omega arith

pub one_if-false : (b : Bool) → one_if b ≡ 0 → b ≡ false
one_if-false true e = absurd (omega arith)
one_if-false false e = refl

pub one_if-true : (b : Bool) → 0 < one_if b → b ≡ true
one_if-true true e = refl
one_if-true false e = absurd (omega arith)

pub one_here : (n k : ℕ) → n ≡ k → one_if (n == k) ≡ 1
one_here n k e = grind (arith, nat_tests)

-- one number more is below n + 1
pub below_more : (n k : ℕ) → one_if (nat_lt k (n + 1)) ≡ one_if (nat_lt k n) + one_if (n == k)
below_more n k = grind (arith, nat_tests)

pub times_push : (k : ℕ) (places : List ℕ) (p : ℕ)
    → times k (places ++ p ∷ []) ≡ times k places + one_if (p == k)
times_push k places p = sum_by_push _ places p
