-- legs in ascending order of their numbers, and one of them that changes
use Rattle.law_order.proofs.Vocabulary.{◌≡◌, ℕ, zero, suc, ◌<◌, ◌≤◌, List, [], ◌∷◌, ◌++◌, Some, None, arith, sym, ap, ◌∙◌, subst, slice_get, slice_set, remove, AllByRecursion, Option}

abbrev number_by : {X : Type 0} → (X → ℕ) → Option X → ℕ
number_by number_of None = 0
number_by number_of (Some x) = number_of x

both_so : {X : Type 0} (P Q R : X → Type 0) → ((x : X) → P x → Q x → R x) → (xs : List X)
    → AllByRecursion P xs → AllByRecursion Q xs → AllByRecursion R xs
both_so P Q R so [] all other = tt
both_so P Q R so (x ∷ xs) all other =
    (so x all.0 other.0, both_so P Q R so xs all.1 other.1)

module _ {X : Type 0} (number_of : X → ℕ) where
  -- the numbers are above low and at most high
  abbrev pub Ascends : ℕ → ℕ → List X → Type 0
  Ascends low high [] = low ≤ high
  Ascends low high (x ∷ xs) = (low < number_of x) × Ascends (number_of x) high xs

  ascends_lower : (low less high : ℕ) (xs : List X) → less ≤ low → Ascends low high xs
      → Ascends less high xs
  ascends_lower low less high [] l s = omega (arith, l, s)
  ascends_lower low less high (x ∷ xs) l s = let above = s.0 in (omega (arith, l, above), s.1)

  above_all : (low high : ℕ) (xs : List X) → Ascends low high xs
      → AllByRecursion (λ (z : X). low < number_of z) xs
  above_all low high [] s = tt
  above_all low high (x ∷ xs) s =
      let above = s.0 in (
        above,
        above_all low high xs
            (ascends_lower (number_of x) low high xs (omega (arith, above)) s.1),
      )

  -- a leg at a place is above low
  above_at : (low high : ℕ) (xs : List X) (place : ℕ) (x : X) → slice_get xs place ≡ Some x
      → Ascends low high xs → low < number_of x
  above_at low high [] place x at s = absurd (cc)
  above_at low high (z ∷ xs) zero x at s =
      let is : number_of z ≡ number_of x = ap (number_by number_of) at in
      let here = s.0 in omega (arith, is, here)
  above_at low high (z ∷ xs) (suc place) x at s =
      let here = s.0 in
      let rest = above_at (number_of z) high xs place x at s.1 in omega (arith, here, rest)

  ascends_low : (low high : ℕ) (xs : List X) → Ascends low high xs → low ≤ high
  ascends_low low high [] s = s
  ascends_low low high (x ∷ xs) s =
      let above = s.0 in
      let rest = ascends_low (number_of x) high xs s.1 in omega (arith, above, rest)

  -- and at most high
  pub within_at : (low high : ℕ) (xs : List X) (place : ℕ) (x : X) → slice_get xs place ≡ Some x
      → Ascends low high xs → number_of x ≤ high
  within_at low high [] place x at s = absurd (cc)
  within_at low high (z ∷ xs) zero x at s =
      let is : number_of z ≡ number_of x = ap (number_by number_of) at in
      let rest = ascends_low (number_of z) high xs s.1 in omega (arith, is, rest)
  within_at low high (z ∷ xs) (suc place) x at s = within_at (number_of z) high xs place x at s.1

  pub ascends_push : (low high : ℕ) (y : X) (xs : List X) → high < number_of y
      → Ascends low high xs → Ascends low (number_of y) (xs ++ y ∷ [])
  ascends_push low high y [] e s = (omega (arith, e, s), omega arith)
  ascends_push low high y (x ∷ xs) e s = (s.0, ascends_push (number_of x) high y xs e s.1)

  pub ascends_set : (low high : ℕ) (xs : List X) (place : ℕ) (x y : X)
      → slice_get xs place ≡ Some x → number_of y ≡ number_of x → Ascends low high xs
      → Ascends low high (slice_set xs place y)
  ascends_set low high [] place x y at same s = absurd (cc)
  ascends_set low high (z ∷ xs) zero x y at same s =
      let is : number_of z ≡ number_of y = ap (number_by number_of) at ∙ sym same in
      (subst (λ (n : ℕ). low < n) is s.0, subst (λ (n : ℕ). Ascends n high xs) is s.1)
  ascends_set low high (z ∷ xs) (suc place) x y at same s =
      (s.0, ascends_set (number_of z) high xs place x y at same s.1)

  pub ascends_removed : (low high : ℕ) (xs : List X) (place : ℕ) → Ascends low high xs
      → Ascends low high (remove xs place)
  ascends_removed low high [] zero s = s
  ascends_removed low high [] (suc place) s = s
  ascends_removed low high (x ∷ xs) zero s =
      let above = s.0 in ascends_lower (number_of x) low high xs (omega (arith, above)) s.1
  ascends_removed low high (x ∷ xs) (suc place) s =
      (s.0, ascends_removed (number_of x) high xs place s.1)

  -- where one changes, the others have other numbers
  pub others_so : (P Q : X → Type 0) (low high : ℕ) (xs : List X) (place : ℕ) (x y : X)
      → slice_get xs place ≡ Some x → Q y
      → ((z : X) → (number_of z ≡ number_of x → ⊥) → P z → Q z) → Ascends low high xs
      → AllByRecursion P xs → AllByRecursion Q (slice_set xs place y)
  others_so P Q low high [] place x y at here so s all = tt
  others_so P Q low high (z ∷ xs) zero x y at here so s all =
      let is : number_of z ≡ number_of x = ap (number_by number_of) at in (
        here,
        both_so P (λ (w : X). number_of z < number_of w) Q
            (λ w was above. so w (λ e. omega (arith, e, is, above)) was) xs all.1
            (above_all (number_of z) high xs s.1),
      )
  others_so P Q low high (z ∷ xs) (suc place) x y at here so s all =
      let below = above_at (number_of z) high xs place x at s.1 in (
        so z (λ e. omega (arith, e, below)) all.0,
        others_so P Q (number_of z) high xs place x y at here so s.1 all.1,
      )
