-- where one packet more was put on a leg than came there, one more passed in all
use Rattle.law_order.proofs.Vocabulary.{◌≡◌, ℕ, zero, suc, ◌+◌, ◌≤◌, ◌==◌, Bool, true, false, List, refl, sym, subst, arith, max, nat_tests}
use Rattle.law_moves.proofs.Vocabulary.{Named, LegKind, OnLeg, sum_below, count_on}
use Rattle.law_moves.proofs.Lemmas.{sum_rises, some_legs, all_legs}
use Rattle.law_moves.specs.Chains.Ways.{total}

module _ (f g : ℕ → ℕ) (each : (k : ℕ) → f k ≤ g k) (j : ℕ) (more : f j + 1 ≤ g j) where
  sum_more : (n : ℕ) → suc j ≤ n → sum_below f n + 1 ≤ sum_below g n
  sum_more zero l = absurd (omega (arith, l))
  sum_more (suc n) l = by (sum_more n) (n == j) refl
    where
      by : (suc j ≤ n → sum_below f n + 1 ≤ sum_below g n) → (b : Bool) → (n == j) ≡ b
          → sum_below f (suc n) + 1 ≤ sum_below g (suc n)
      by before true e =
          let same : n ≡ j = grind (arith, nat_tests, e) in
          let rest = sum_rises f g each n in
          let here : f n + 1 ≤ g n = subst (λ (k : ℕ). f k + 1 ≤ g k) (sym same) more in
          omega (arith, rest, here)
      by before false e =
          let less : suc j ≤ n = grind (arith, nat_tests, e, l) in
          let rest = before less in
          let one = each n in
          omega (arith, rest, one)

-- on no leg more came than was put at the other end of the way, and on one leg less
pub one_more : (before behind : Named → Bool) (from to : LegKind) (came put : List OnLeg)
    → ((n : ℕ) → count_on behind to came n ≤ count_on before from put n) → (j : ℕ)
    → count_on behind to came j + 1 ≤ count_on before from put j
    → total behind to came + 1 ≤ total before from put
one_more before behind from to came put each j more =
    let legs = all_legs behind to came in
    let n = max (suc j) legs.bound in
    let within : legs.bound ≤ n = grind (arith, nat_tests) in
    let reaches : suc j ≤ n = grind (arith, nat_tests) in
    let all = legs.all n within in
    let sum = sum_more (count_on behind to came) (count_on before from put) each j more n reaches in
    let some = some_legs before from put n in
    omega (arith, all, sum, some)

-- on no leg more came, so none did in all
pub none_more : (before behind : Named → Bool) (from to : LegKind) (came put : List OnLeg)
    → ((n : ℕ) → count_on behind to came n ≤ count_on before from put n)
    → total behind to came ≤ total before from put
none_more before behind from to came put each =
    let legs = all_legs behind to came in
    let all = legs.all legs.bound (omega arith) in
    let sum = sum_rises (count_on behind to came) (count_on before from put) each legs.bound in
    let some = some_legs before from put legs.bound in
    omega (arith, all, sum, some)

-- what is on one leg is among all
pub leg_within : (test : Named → Bool) (kind : LegKind) (log : List OnLeg) (n : ℕ)
    → count_on test kind log n ≤ total test kind log
leg_within test kind log n =
    let some = some_legs test kind log (suc n) in omega (arith, some)
