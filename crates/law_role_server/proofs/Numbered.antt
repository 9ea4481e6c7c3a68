-- the one of a number among those that are kept, and what is said of it
use Rattle.law_order.proofs.Vocabulary.{◌≡◌, ℕ, zero, suc, ◌==◌, Bool, true, false, true≢false, List, [], ◌∷◌, ◌++◌, Some, None, refl, sym, ap, ◌∙◌, subst, or_parts, AllByRecursion, list_any, slice_get, slice_set, remove}
use Rattle.law_moves.proofs.Vocabulary.{same_number}

abbrev pub If : Bool → Type 0 → Type 0 → Type 0
If true A B = A
If false A B = B

-- the one that is at the place
pub one : {X : Type 0} (x y : X) → Some x ≡ Some y → x ≡ y
one x y e = cc

module _ {X : Type 0} (number : X → ℕ) (n : ℕ) where
  abbrev pub Absent : List X → Type 0
  Absent [] = Unit {0}
  Absent (x ∷ xs) = (number x == n ≡ false) × Absent xs

  -- one has the number at most, and of that one this is so
  abbrev pub Once : (X → Type 0) → List X → Type 0
  Once Q [] = Unit {0}
  Once Q (x ∷ xs) = If (number x == n) (Q x × Absent xs) (Once Q xs)

  pub absent_once : (Q : X → Type 0) (xs : List X) → Absent xs → Once Q xs
  absent_once Q [] none = tt
  absent_once Q (x ∷ xs) none =
      subst (λ (b : Bool). If b (Q x × Absent xs) (Once Q xs)) (sym none.0)
      (absent_once Q xs none.1)

  pub absent_if : (xs : List X)
      → ((i : ℕ) (x : X) → slice_get xs i ≡ Some x → number x == n ≡ false) → Absent xs
  absent_if [] each = tt
  absent_if (x ∷ xs) each = (each zero x refl, absent_if xs (λ i y at. each (suc i) y at))

  -- ---- another takes its place

  pub absent_at : (xs : List X) (i : ℕ) (x : X) → slice_get xs i ≡ Some x → Absent xs
      → number x == n ≡ false
  absent_at [] i x at none = absurd cc
  absent_at (y ∷ xs) zero x at none =
      subst (λ (z : X). number z == n ≡ false) (one y x at) none.0
  absent_at (y ∷ xs) (suc i) x at none = absent_at xs i x at none.1

  pub absent_set : (xs : List X) (i : ℕ) (x y : X) → slice_get xs i ≡ Some x
      → number y ≡ number x → Absent xs → Absent (slice_set xs i y)
  absent_set [] i x y at same none = tt
  absent_set (z ∷ xs) zero x y at same none =
      (ap (λ (k : ℕ). k == n) (same ∙ ap number (sym (one z x at))) ∙ none.0, none.1)
  absent_set (z ∷ xs) (suc i) x y at same none =
      (none.0, absent_set xs i x y at same none.1)

  pub absent_removed : (xs : List X) (i : ℕ) → Absent xs → Absent (remove xs i)
  absent_removed [] zero none = tt
  absent_removed [] (suc i) none = tt
  absent_removed (x ∷ xs) zero none = none.1
  absent_removed (x ∷ xs) (suc i) none = (none.0, absent_removed xs i none.1)

  pub absent_push : (xs : List X) (x : X) → number x == n ≡ false → Absent xs
      → Absent (xs ++ x ∷ [])
  absent_push [] x other none = (other, tt)
  absent_push (y ∷ xs) x other none = (none.0, absent_push xs x other none.1)

  -- ---- and the other way

  pub absent_unset : (xs : List X) (i : ℕ) (x y : X) → slice_get xs i ≡ Some x
      → number y ≡ number x → Absent (slice_set xs i y) → Absent xs
  absent_unset [] i x y at same none = tt
  absent_unset (z ∷ xs) zero x y at same none =
      (ap (λ (k : ℕ). k == n) (ap number (one z x at) ∙ sym same) ∙ none.0, none.1)
  absent_unset (z ∷ xs) (suc i) x y at same none =
      (none.0, absent_unset xs i x y at same none.1)

  pub absent_back : (xs : List X) (i : ℕ) (x : X) → slice_get xs i ≡ Some x
      → number x == n ≡ false → Absent (remove xs i) → Absent xs
  absent_back [] i x at other none = tt
  absent_back (z ∷ xs) zero x at other none =
      (subst (λ (w : X). number w == n ≡ false) (sym (one z x at)) other, none)
  absent_back (z ∷ xs) (suc i) x at other none =
      (none.0, absent_back xs i x at other none.1)

  pub absent_missing : (xs : List X) (i : ℕ) → slice_get xs i ≡ None → Absent (remove xs i)
      → Absent xs
  absent_missing [] i at none = tt
  absent_missing (z ∷ xs) zero at none = absurd cc
  absent_missing (z ∷ xs) (suc i) at none = (none.0, absent_missing xs i at none.1)

  pub absent_front : (xs : List X) (x : X) → Absent (xs ++ x ∷ []) → Absent xs
  absent_front [] x none = tt
  absent_front (z ∷ xs) x none = (none.0, absent_front xs x none.1)

  module _ (Q R : X → Type 0) where
    pub once_map : (xs : List X) → ((x : X) → Q x → R x) → Once Q xs → Once R xs
    once_map [] f once = tt
    once_map (x ∷ xs) f once = by (number x == n) once (once_map xs f)
      where
        by : (b : Bool) → If b (Q x × Absent xs) (Once Q xs) → (Once Q xs → Once R xs)
            → If b (R x × Absent xs) (Once R xs)
        by true is rest = (f x is.0, is.1)
        by false is rest = rest is

    -- one with the same number takes a place
    pub once_set : (xs : List X) (i : ℕ) (x y : X) → slice_get xs i ≡ Some x
        → number y ≡ number x → (number x == n ≡ true → Q x → R y)
        → (number x == n ≡ false → (z : X) → Q z → R z) → Once Q xs → Once R (slice_set xs i y)
    once_set [] i x y at same here other once = absurd cc
    once_set (z ∷ xs) zero x y at same here other once =
        by (number z == n) refl once
      where
        is : number y == n ≡ (number z == n)
        is = ap (λ (k : ℕ). k == n) (same ∙ ap number (sym (one z x at)))

        by : (b : Bool) → number z == n ≡ b → If b (Q z × Absent xs) (Once Q xs)
            → If (number y == n) (R y × Absent xs) (Once R xs)
        by true e has =
            subst (λ (b : Bool). If b (R y × Absent xs) (Once R xs)) (sym (is ∙ e)) (
              here (ap (λ (w : X). number w == n) (sym (one z x at)) ∙ e)
                  (subst Q (one z x at) has.0),
              has.1,
            )
        by false e has =
            subst (λ (b : Bool). If b (R y × Absent xs) (Once R xs)) (sym (is ∙ e))
            (once_map xs (other (ap (λ (w : X). number w == n) (sym (one z x at)) ∙ e)) has)
    once_set (z ∷ xs) (suc i) x y at same here other once =
        by (number z == n) once (once_set xs i x y at same here other)
      where
        by : (b : Bool) → If b (Q z × Absent xs) (Once Q xs)
            → (Once Q xs → Once R (slice_set xs i y))
            → If b (R z × Absent (slice_set xs i y)) (Once R (slice_set xs i y))
        by true has rest =
            (other (absent_at xs i x at has.1) z has.0, absent_set xs i x y at same has.1)
        by false has rest = rest has

  -- ---- one goes, and one comes

  pub once_removed : (Q : X → Type 0) (xs : List X) (i : ℕ) → Once Q xs → Once Q (remove xs i)
  once_removed Q [] zero once = tt
  once_removed Q [] (suc i) once = tt
  once_removed Q (x ∷ xs) zero once = by (number x == n) once
    where
      by : (b : Bool) → If b (Q x × Absent xs) (Once Q xs) → Once Q xs
      by true is = absent_once Q xs is.1
      by false is = is
  once_removed Q (x ∷ xs) (suc i) once = by (number x == n) once (once_removed Q xs i)
    where
      by : (b : Bool) → If b (Q x × Absent xs) (Once Q xs)
          → (Once Q xs → Once Q (remove xs i))
          → If b (Q x × Absent (remove xs i)) (Once Q (remove xs i))
      by true is rest = (is.0, absent_removed xs i is.1)
      by false is rest = rest is

  pub once_push : (Q : X → Type 0) (xs : List X) (x : X) → number x == n ≡ false → Once Q xs
      → Once Q (xs ++ x ∷ [])
  once_push Q [] x other once =
      subst (λ (b : Bool). If b (Q x × Absent []) (Unit {0})) (sym other) tt
  once_push Q (y ∷ xs) x other once = by (number y == n) once (once_push Q xs x other)
    where
      by : (b : Bool) → If b (Q y × Absent xs) (Once Q xs)
          → (Once Q xs → Once Q (xs ++ x ∷ []))
          → If b (Q y × Absent (xs ++ x ∷ [])) (Once Q (xs ++ x ∷ []))
      by true is rest = (is.0, absent_push xs x other is.1)
      by false is rest = rest is

  -- the first of the number
  pub once_first : (Q : X → Type 0) (xs : List X) (x : X) → Absent xs → Q x
      → Once Q (xs ++ x ∷ [])
  once_first Q [] x none is = by (number x == n)
    where
      by : (b : Bool) → If b (Q x × Absent []) (Unit {0})
      by true = (is, tt)
      by false = tt
  once_first Q (y ∷ xs) x none is =
      subst (λ (b : Bool). If b (Q y × Absent (xs ++ x ∷ [])) (Once Q (xs ++ x ∷ [])))
      (sym none.0) (once_first Q xs x none.1 is)

  -- the one at a place, if it has the number
  pub once_at : (Q : X → Type 0) (xs : List X) (i : ℕ) (x : X) → slice_get xs i ≡ Some x
      → number x == n ≡ true → Once Q xs → Q x
  once_at Q [] i x at is once = absurd cc
  once_at Q (y ∷ xs) zero x at is once =
      subst Q (one y x at)
      (subst (λ (b : Bool). If b (Q y × Absent xs) (Once Q xs))
      (ap (λ (w : X). number w == n) (one y x at) ∙ is) once).0
  once_at Q (y ∷ xs) (suc i) x at is once = by (number y == n) once (once_at Q xs i x at is)
    where
      by : (b : Bool) → If b (Q y × Absent xs) (Once Q xs) → (Once Q xs → Q x) → Q x
      by true has rest = absurd (true≢false (sym is ∙ absent_at xs i x at has.1))
      by false has rest = rest has

  -- with what is so of each
  pub once_all : (Q P : X → Type 0) (xs : List X) → AllByRecursion P xs → Once Q xs
      → Once (λ (x : X). Q x × P x × (number x ≡ n)) xs
  once_all Q P [] all once = tt
  once_all Q P (x ∷ xs) all once = by (number x == n) refl once (once_all Q P xs all.1)
    where
      by : (b : Bool) → number x == n ≡ b → If b (Q x × Absent xs) (Once Q xs)
          → (Once Q xs → Once (λ (y : X). Q y × P y × (number y ≡ n)) xs)
          → If b ((Q x × P x × (number x ≡ n)) × Absent xs)
          (Once (λ (y : X). Q y × P y × (number y ≡ n)) xs)
      by true e is rest = ((is.0, all.0, same_number (number x) n e), is.1)
      by false e is rest = rest is

-- a test that none passes
pub none_any : {X : Type 0} (test : X → Bool) (xs : List X) → list_any test xs ≡ false
    → AllByRecursion (λ (x : X). test x ≡ false) xs
none_any test [] e = tt
none_any test (x ∷ xs) e =
    let both = or_parts (test x) (list_any test xs) e in (both.0, none_any test xs both.1)
