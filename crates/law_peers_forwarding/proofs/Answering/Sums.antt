-- what is more on one leg is more on all
use Rattle.law_order.proofs.Vocabulary.{◌≡◌, ℕ, zero, suc, ◌+◌, ◌<◌, ◌≤◌, ◌==◌, Bool, true, false, List, refl, arith, subst, nat_tests}
use Rattle.law_moves.proofs.Vocabulary.{Named, LegKind, OnLeg, count_of, of_kind, count_on, sum_below}
use Rattle.law_moves.proofs.Lemmas.{all_legs, some_legs, sum_rises}

module _ (f g : ℕ → ℕ) (each : (k : ℕ) → f k ≤ g k) (at more : ℕ) (here : f at + more ≤ g at) where
  sum_more : (n : ℕ) → at < n → sum_below f n + more ≤ sum_below g n
  sum_more zero less = absurd (omega (arith, less))
  sum_more (suc n) less = by (n == at) refl (sum_more n)
    where
      by : (b : Bool) → (n == at) ≡ b → (at < n → sum_below f n + more ≤ sum_below g n)
          → sum_below f n + f n + more ≤ sum_below g n + g n
      by true e rest =
          let same : at ≡ n = grind (arith, nat_tests, e) in
          let all = sum_rises f g each n in
          let last : f n + more ≤ g n = subst (λ (k : ℕ). f k + more ≤ g k) same here in
          omega (arith, all, last)
      by false e rest =
          let other : at < n = grind (arith, nat_tests, e, less) in
          let all = rest other in
          let last = each n in
          omega (arith, all, last)

pub all_more : (one other : Named → Bool) (from to : LegKind) (a b : List OnLeg)
    → ((k : ℕ) → count_on one from a k ≤ count_on other to b k) → (at more : ℕ)
    → count_on one from a at + more ≤ count_on other to b at
    → count_of one (of_kind from a) + more ≤ count_of other (of_kind to b)
all_more one other from to a b each at more here =
    let legs = all_legs one from a in
    let n = legs.bound + suc at in
    let first = legs.all n (omega arith) in
    let sum = sum_more (count_on one from a) (count_on other to b) each at more here n
    (omega arith) in
    let last = some_legs other to b n in
    omega (arith, first, sum, last)
