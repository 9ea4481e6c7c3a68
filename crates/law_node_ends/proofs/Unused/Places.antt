-- lists of which no element passes a test, and lists of elements with distinct numbers: what is
-- left of that where an element is changed, removed or added
use Rattle.law_order.proofs.Vocabulary.{◌≡◌, ℕ, zero, suc, ◌==◌, ◌||◌, cond, nat_lt, List, [], ◌∷◌, ◌++◌, length, Bool, true, false, Some, None, arith, refl, sym, ap, ◌∙◌, subst, position, find, slice_get, slice_set, remove, list_any, position_or_len, Option, nat_tests, find_at}
use Rattle.law_moves.proofs.Vocabulary.{neither}
use Rattle.law_role_server.proofs.Vocabulary.{is_some}

no_one : (a b : Bool) → a ≡ false → b ≡ false → (a || b) ≡ false
no_one true b p q = absurd cc
no_one false b p q = q

other_way : (n k : ℕ) → (n == k) ≡ false → (k == n) ≡ false
other_way n k e = grind (arith, nat_tests)

-- ---- no element passes

module _ {X : Type 0} (test : X → Bool) where
  abbrev the : X → Option X → X
  the x None = x
  the x (Some y) = y

  pub none_at : (xs : List X) (place : ℕ) (x : X) → slice_get xs place ≡ Some x
      → list_any test xs ≡ false → test x ≡ false
  none_at [] place x e none = absurd cc
  none_at (y ∷ xs) zero x e none =
      subst (λ (z : X). test z ≡ false) (ap (the y) e)
      (neither (test y) (list_any test xs) none).0
  none_at (y ∷ xs) (suc place) x e none =
      none_at xs place x e (neither (test y) (list_any test xs) none).1

  pub none_set : (xs : List X) (place : ℕ) (y : X) → test y ≡ false
      → list_any test xs ≡ false → list_any test (slice_set xs place y) ≡ false
  none_set [] zero y e none = refl
  none_set [] (suc place) y e none = refl
  none_set (x ∷ xs) zero y e none =
      no_one (test y) (list_any test xs) e (neither (test x) (list_any test xs) none).1
  none_set (x ∷ xs) (suc place) y e none =
      let parts = neither (test x) (list_any test xs) none in
      no_one (test x) (list_any test (slice_set xs place y)) parts.0
      (none_set xs place y e parts.1)

  pub none_removed : (xs : List X) (place : ℕ) → list_any test xs ≡ false
      → list_any test (remove xs place) ≡ false
  none_removed [] zero none = refl
  none_removed [] (suc place) none = refl
  none_removed (x ∷ xs) zero none = (neither (test x) (list_any test xs) none).1
  none_removed (x ∷ xs) (suc place) none =
      let parts = neither (test x) (list_any test xs) none in
      no_one (test x) (list_any test (remove xs place)) parts.0 (none_removed xs place parts.1)

  pub none_pushed : (xs : List X) (y : X) → test y ≡ false → list_any test xs ≡ false
      → list_any test (xs ++ y ∷ []) ≡ false
  none_pushed [] y e none = no_one (test y) false e refl
  none_pushed (x ∷ xs) y e none =
      let parts = neither (test x) (list_any test xs) none in
      no_one (test x) (list_any test (xs ++ y ∷ [])) parts.0 (none_pushed xs y e parts.1)

  -- ---- the first that passes

  found_at : (xs : List X) (place : ℕ) → is_some (slice_get xs place) ≡ nat_lt place (length xs)
  found_at [] place = grind (arith, nat_tests)
  found_at (x ∷ xs) zero = grind (arith, nat_tests)
  found_at (x ∷ xs) (suc place) = found_at xs place ∙ grind (arith, nat_tests)

  is_found : (xs : List X) → is_some (find test xs) ≡ list_any test xs
  is_found [] = refl
  is_found (x ∷ xs) = by (test x) (is_found xs)
    where
      by : (b : Bool) → is_some (find test xs) ≡ list_any test xs
          → is_some (cond b (Some x) (find test xs)) ≡ (b || list_any test xs)
      by true rest = refl
      by false rest = rest

  pub has_place : (xs : List X) → is_some (position test xs) ≡ list_any test xs
  has_place xs =
      by (nat_lt (position_or_len test xs) (length xs))
      ∙ sym (found_at xs (position_or_len test xs)) ∙ ap is_some (sym (find_at test xs))
      ∙ is_found xs
    where
      by : (b : Bool) → is_some (cond b (Some (position_or_len test xs)) None) ≡ b
      by true = refl
      by false = refl

-- where none passes a weaker test
pub none_weaker : {X : Type 0} (test weaker : X → Bool)
    → ((x : X) → weaker x ≡ false → test x ≡ false) → (xs : List X)
    → list_any weaker xs ≡ false → list_any test xs ≡ false
none_weaker test weaker less [] none = refl
none_weaker test weaker less (x ∷ xs) none =
    let parts = neither (weaker x) (list_any weaker xs) none in
    no_one (test x) (list_any test xs) (less x parts.0)
    (none_weaker test weaker less xs parts.1)

-- ---- distinct numbers

module _ {X : Type 0} (number : X → ℕ) where
  abbrev pub has : ℕ → X → Bool
  has n x = number x == n

  abbrev pub AreDistinct : List X → Type 0
  AreDistinct [] = Unit {0}
  AreDistinct (x ∷ xs) = (list_any (has (number x)) xs ≡ false) × AreDistinct xs

  pub distinct_set : (xs : List X) (place : ℕ) (x y : X) → slice_get xs place ≡ Some x
      → number y ≡ number x → AreDistinct xs → AreDistinct (slice_set xs place y)
  distinct_set [] place x y e same d = absurd cc
  distinct_set (z ∷ xs) zero x y e same d =
      let is : number y ≡ number z =
      same ∙ ap number (sym (ap (the (has (number x)) z) e)) in
      (subst (λ n. list_any (has n) xs ≡ false) (sym is) d.0, d.1)
  distinct_set (z ∷ xs) (suc place) x y e same d = (
    none_set (has (number z)) xs place y
        (ap (λ n. n == number z) same ∙ none_at (has (number z)) xs place x e d.0) d.0,
    distinct_set xs place x y e same d.1,
  )

  pub distinct_removed : (xs : List X) (place : ℕ) → AreDistinct xs
      → AreDistinct (remove xs place)
  distinct_removed [] zero d = tt
  distinct_removed [] (suc place) d = tt
  distinct_removed (x ∷ xs) zero d = d.1
  distinct_removed (x ∷ xs) (suc place) d =
      (none_removed (has (number x)) xs place d.0, distinct_removed xs place d.1)

  pub distinct_pushed : (xs : List X) (y : X) → list_any (has (number y)) xs ≡ false
      → AreDistinct xs → AreDistinct (xs ++ y ∷ [])
  distinct_pushed [] y none d = (refl, tt)
  distinct_pushed (x ∷ xs) y none d =
      let parts = neither (has (number y) x) (list_any (has (number y)) xs) none in (
        none_pushed (has (number x)) xs y (other_way (number x) (number y) parts.0) d.0,
        distinct_pushed xs y parts.1 d.1,
      )
