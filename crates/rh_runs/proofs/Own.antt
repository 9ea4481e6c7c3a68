-- where all entries that pass a test stand at some places, the list has them in that order
use Rattle.std.proofs.Common.{◌≡◌, ℕ, suc, ◌+◌, ◌<◌, ◌≤◌, true, false, List, [], ◌∷◌, refl, subst, ap, arith}
use Rattle.std.specs.Prelude.{Bool, ◌==◌, if◌then◌else◌}
use Rattle.std.proofs.lemmas.Bool.Decides.{nat_tests}
use Rattle.std.proofs.lemmas.List.Sums.{sum_by-cons}
use Rattle.rh_turn.specs.History.{times, one_if}
use Rattle.rh_runs.specs.Own.{those, picked, AreFrom, HasThose}

pub by_test : {A : Type 0} (P : A → Type 0) (b : Bool) (x y : A) → (b ≡ true → P x) → (b ≡ false → P y)
    → P (if b then x else y)
by_test P true x y holds fails = holds refl
by_test P false x y holds fails = fails refl

-- ---- how often a place stands among others

times-cons : (k p : ℕ) (ps : List ℕ) → times k (p ∷ ps) ≡ one_if (p == k) + times k ps
times-cons k p ps = sum_by-cons _ p ps

pub is-same : (p n : ℕ) → (p == n) ≡ true → p ≡ n
is-same p n holds = grind (arith, nat_tests)

is-other : (p k : ℕ) → k < p → (p == k) ≡ false
is-other p k before = grind (arith, nat_tests)

is-later : (p k : ℕ) → p < k → (p == k) ≡ false
is-later p k before = grind (arith, nat_tests)

is-above : (p n : ℕ) → n ≤ p → (p == n) ≡ false → n + 1 ≤ p
is-above p n least fails = grind (arith, nat_tests)

times-skip : (k p : ℕ) (ps : List ℕ) → (p == k) ≡ false → times k (p ∷ ps) ≡ times k ps
times-skip k p ps other =
    let cons = times-cons k p ps in
    let none : one_if (p == k) ≡ 0 = ap one_if other in omega (arith, cons, none)

-- none of rising places is before the first
times-before : (n k : ℕ) (ps : List ℕ) → AreFrom n ps → k < n → times k ps ≡ 0
times-before n k [] rise before = refl
times-before n k (p ∷ ps) rise before =
    let least = rise.0 in
    let under : k < p = omega (arith, least, before) in
    let rest : times k ps ≡ 0 = times-before (p + 1) k ps rise.1 (omega (arith, under)) in
    let skip = times-skip k p ps (is-other p k under) in omega (arith, skip, rest)

-- ---- entry by entry

moved : (n k : ℕ) → n + suc k ≡ n + 1 + k
moved n k = omega arith

module _ {E : Type 0} (test : E → Bool) where
  -- behind the first entry
  has-behind : (n : ℕ) (ps : List ℕ) (e : E) (es : List E) → HasThose test n ps (e ∷ es)
      → HasThose test (n + 1) ps es
  has-behind n ps e es has =
      λ k w at holds. subst (λ m. 0 < times m ps) (moved n k) (has (suc k) w at holds)

  -- behind the first entry, where the first place is its
  has-behind-own : (n p : ℕ) (ps : List ℕ) (e : E) (es : List E) → HasThose test n (p ∷ ps) (e ∷ es)
      → p ≡ n → HasThose test (n + 1) ps es
  has-behind-own n p ps e es has same =
      λ k w at holds.
      let later : p < n + 1 + k = omega (arith, same) in
      let here = has-behind n (p ∷ ps) e es has k w at holds in
      let skip = times-skip (n + 1 + k) p ps (is-later p (n + 1 + k) later) in
      omega (arith, here, skip)

  pub those-own : (n : ℕ) (ps : List ℕ) (es : List E) → AreFrom n ps → HasThose test n ps es
      → those test es ≡ those test (picked n ps es)
  those-own n [] [] rise has = refl
  those-own n (p ∷ ps) [] rise has = refl
  those-own n [] (e ∷ es) rise has =
      by_test (λ l. l ≡ []) (test e) (e ∷ those test es) (those test es)
      (λ holds. let h = has 0 e refl holds in absurd (omega (arith, h)))
      (λ fails. those-own (n + 1) [] es tt (has-behind n [] e es has))
  those-own n (p ∷ ps) (e ∷ es) rise has =
      by_test (λ l. those test (e ∷ es) ≡ those test l) (p == n)
      (e ∷ picked (n + 1) ps es) (picked (n + 1) (p ∷ ps) es)
      (λ holds.
      let same = is-same p n holds in
      ap (λ l. if test e then e ∷ l else l)
      (those-own (n + 1) ps es (subst (λ m. AreFrom (m + 1) ps) same rise.1)
      (has-behind-own n p ps e es has same)))
      (λ fails.
      let above = is-above p n rise.0 fails in
      by_test (λ l. l ≡ those test (picked (n + 1) (p ∷ ps) es)) (test e)
      (e ∷ those test es) (those test es)
      (λ holds.
      let h = has 0 e refl holds in
      let none = times-before (n + 1) (n + 0) (p ∷ ps) (above, rise.1) (omega arith) in
      absurd (omega (arith, h, none)))
      (λ other. those-own (n + 1) (p ∷ ps) es (above, rise.1) (has-behind n (p ∷ ps) e es has)))
