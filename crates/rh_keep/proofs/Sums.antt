-- what a meter counts when packets are put one after the other
use Rattle.std.proofs.Common.{◌≡◌, ℕ, ◌+◌, ◌≤◌, List, [], ◌∷◌, arith}
use Rattle.std.proofs.lemmas.Bool.Decides.{nat_tests}
use Rattle.std.proofs.lemmas.List.Sums.{sum_by-cons}
use Rattle.std.specs.List.{sum}
use Rattle.rh_keep.specs.Meters.{Meter, after_put, after_puts, CanPut}

pub count_after_puts : (m : Meter) (lens : List ℕ)
    → (after_puts m lens).count ≡ m.count + sum lens
count_after_puts m [] = omega arith
count_after_puts m (len ∷ lens) =
    omega (arith, count_after_puts (after_put m len) lens, sum_by-cons (λ (n : ℕ). n) len lens)

pub within_lifetime : (m : Meter) (lens : List ℕ) → m.count ≤ m.length → CanPut m lens
    → m.count + sum lens ≤ m.length
within_lifetime m [] within can = omega arith
within_lifetime m (len ∷ lens) within can =
    let next : m.count + len ≤ m.length = grind (arith, nat_tests, can.0) in
    let all = within_lifetime (after_put m len) lens next can.1 in
    omega (arith, all, sum_by-cons (λ (n : ℕ). n) len lens)
