-- legs that are in a list once at most, and have one of so many numbers, are no more than these
use Rattle.law_order.proofs.Vocabulary.{◌≡◌, ◌⊎◌, ◌≤◌, ℕ, zero, suc, ◌+◌, ◌==◌, Bool, true, false, if◌then◌else◌, List, [], ◌∷◌, length, inl, inr, arith, refl, sym, subst, nat_tests, AllByRecursion}
use Rattle.law_moves.proofs.Vocabulary.{Leg, LegKind, ClientIn, ClientOut, same_leg, sum_below}
use Rattle.law_moves.proofs.Lemmas.{sum_rises as rises}
use Rattle.law_node_history.proofs.Vocabulary.{leg_at}
use Rattle.law_world_order.proofs.Vocabulary.{times}

-- ---- sums

at_most : (f : ℕ → ℕ) (most : ℕ) → ((k : ℕ) → f k ≤ most) → (n : ℕ)
    → sum_below f n ≤ sum_below (λ k. most) n
at_most f most each zero = omega arith
at_most f most each (suc n) =
    let rest = at_most f most each n in
    let one = each n in
    omega (arith, rest, one)

twos : (n : ℕ) → sum_below (λ k. 2) n ≡ n + n
twos zero = omega arith
twos (suc n) = let rest = twos n in omega (arith, rest)

-- one more at a number below
one_more : (f g : ℕ → ℕ) (j : ℕ) → ((k : ℕ) → f k ≤ g k) → suc (f j) ≤ g j → (n : ℕ)
    → suc j ≤ n → suc (sum_below f n) ≤ sum_below g n
one_more f g j each here zero below = absurd (omega (arith, below))
one_more f g j each here (suc n) below = by (j == n) refl (one_more f g j each here n)
  where
    by : (b : Bool) → (j == n) ≡ b → (suc j ≤ n → suc (sum_below f n) ≤ sum_below g n)
        → suc (sum_below f n + f n) ≤ sum_below g n + g n
    by true is before =
        let same : j ≡ n = grind (arith, nat_tests, is) in
        let rest = rises f g each n in
        let one : suc (f n) ≤ g n = subst (λ (k : ℕ). suc (f k) ≤ g k) same here in
        omega (arith, rest, one)
    by false apart before =
        let less : suc j ≤ n = grind (arith, nat_tests, apart, below) in
        let rest = before less in
        let one = each n in
        omega (arith, rest, one)

-- ---- legs of the client with numbers below one

pub record IsBelow (bound : ℕ) (leg : Leg) : Type 0 where
  pub kind : (leg.kind ≡ ClientIn) ⊎ (leg.kind ≡ ClientOut)
  pub number : suc leg.number ≤ bound

abbrev on_both : List Leg → ℕ → ℕ
on_both legs k = times (leg_at ClientIn k) legs + times (leg_at ClientOut k) legs

more_times : (leg other : Leg) (legs : List Leg) → times leg legs ≤ times leg (other ∷ legs)
more_times leg other legs = by (same_leg other leg)
  where
    by : (b : Bool) → times leg legs ≤ (if b then suc (times leg legs) else times leg legs)
    by true = omega arith
    by false = omega arith

here_in : (n : ℕ) (legs : List Leg)
    → suc (on_both legs n) ≤ on_both (leg_at ClientIn n ∷ legs) n
here_in n legs = grind (arith, nat_tests)

here_out : (n : ℕ) (legs : List Leg)
    → suc (on_both legs n) ≤ on_both (leg_at ClientOut n ∷ legs) n
here_out n legs = grind (arith, nat_tests)

here_by : (kind : LegKind) (n : ℕ) (legs : List Leg) → (kind ≡ ClientIn) ⊎ (kind ≡ ClientOut)
    → suc (on_both legs n) ≤ on_both (leg_at kind n ∷ legs) n
here_by kind n legs (inl is) =
    subst (λ (k : LegKind). suc (on_both legs n) ≤ on_both (leg_at k n ∷ legs) n) (sym is)
    (here_in n legs)
here_by kind n legs (inr is) =
    subst (λ (k : LegKind). suc (on_both legs n) ≤ on_both (leg_at k n ∷ legs) n) (sym is)
    (here_out n legs)

counted : (bound : ℕ) (legs : List Leg) → AllByRecursion (IsBelow bound) legs
    → length legs ≤ sum_below (on_both legs) bound
counted bound [] all = omega arith
counted bound (leg ∷ legs) all =
    let rest = counted bound legs all.1 in
    let more = one_more (on_both legs) (on_both (leg ∷ legs)) leg.number
    (λ k.
    let ins = more_times (leg_at ClientIn k) leg legs in
    let outs = more_times (leg_at ClientOut k) leg legs in
    omega (arith, ins, outs)) (here_by leg.kind leg.number legs all.0.kind) bound all.0.number in
    omega (arith, rest, more)

pub no_more_than : (bound : ℕ) (legs : List Leg) → AllByRecursion (IsBelow bound) legs
    → ((leg : Leg) → times leg legs ≤ 1) → length legs ≤ bound + bound
no_more_than bound legs all once =
    let sum = counted bound legs all in
    let most = at_most (on_both legs) 2
    (λ k.
    let ins = once (leg_at ClientIn k) in
    let outs = once (leg_at ClientOut k) in
    omega (arith, ins, outs)) bound in
    let two = twos bound in
    omega (arith, sum, most, two)
