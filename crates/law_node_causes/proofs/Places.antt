-- a list of ends with another one in a place, or behind all
use Rattle.law_order.proofs.Vocabulary.{◌≡◌, ◌⊎◌, inl, inr, ℕ, zero, suc, ◌+◌, List, [], ◌∷◌, ◌++◌, length, cond, Bool, true, false, nat_lt, Some, None, arith, refl, sym, ap, ◌∙◌, subst, ◌==◌, slice_get, slice_set, nat_tests}
use Rattle.law_moves.proofs.Vocabulary.{Leg, LegKind, ClientOut, OutServer, ClientIn, InServer, NearEnd, kind_number, same_leg, first_where, seated_at}
use Rattle.law_moves.proofs.Lemmas.{itself as leg_itself}

-- the end at a place is the one that was set there, or was there before at another place
pub record IsSet (i j : ℕ) (new end : NearEnd) : Type 0 where
  pub place : j ≡ i
  pub is : end ≡ new

pub record WasThere (ends : List NearEnd) (i j : ℕ) (end : NearEnd) : Type 0 where
  pub place : j ≡ i → ⊥
  pub at : slice_get ends j ≡ Some end

pub set_cases : (ends : List NearEnd) (i j : ℕ) (new end : NearEnd)
    → slice_get (slice_set ends i new) j ≡ Some end → IsSet i j new end ⊎ WasThere ends i j end
set_cases [] i j new end at = absurd cc
set_cases (x ∷ xs) zero zero new end at = inl (record { place = refl; is = cc })
set_cases (x ∷ xs) zero (suc j) new end at = inr (record { place = λ e. omega arith; at = at })
set_cases (x ∷ xs) (suc i) zero new end at = inr (record { place = λ e. omega arith; at = at })
set_cases (x ∷ xs) (suc i) (suc j) new end at = by (set_cases xs i j new end at)
  where
    by : IsSet i j new end ⊎ WasThere xs i j end
        → IsSet (suc i) (suc j) new end ⊎ WasThere (x ∷ xs) (suc i) (suc j) end
    by (inl h) = inl (record { place = ap (λ n. suc n) h.place; is = h.is })
    by (inr h) = inr (record { place = λ e. h.place (omega (arith, e)); at = h.at })

pub push_cases : (ends : List NearEnd) (j : ℕ) (new end : NearEnd)
    → slice_get (ends ++ new ∷ []) j ≡ Some end
    → IsSet (length ends) j new end ⊎ WasThere ends (length ends) j end
push_cases [] zero new end at = inl (record { place = refl; is = cc })
push_cases [] (suc j) new end at = absurd cc
push_cases (x ∷ xs) zero new end at = inr (record { place = λ e. omega (arith, e); at = at })
push_cases (x ∷ xs) (suc j) new end at = by (push_cases xs j new end at)
  where
    by : IsSet (length xs) j new end ⊎ WasThere xs (length xs) j end
        → IsSet (length (x ∷ xs)) (suc j) new end ⊎ WasThere (x ∷ xs) (length (x ∷ xs)) (suc j) end
    by (inl h) = inl (record { place = ap (λ n. suc n) h.place; is = h.is })
    by (inr h) = inr (record { place = λ e. h.place (omega (arith, e)); at = h.at })

-- where an end is seated
abbrev pub seat : List NearEnd → ℕ → ℕ
seat ends at = cond (nat_lt at (length ends)) at (length ends)

pub seat_cases : (ends : List NearEnd) (at j : ℕ) (new end : NearEnd)
    → slice_get (seated_at ends at new) j ≡ Some end
    → IsSet (seat ends at) j new end ⊎ WasThere ends (seat ends at) j end
seat_cases ends at j new end = by (nat_lt at (length ends))
  where
    by : (t : Bool) → slice_get (cond t (slice_set ends at new) (ends ++ new ∷ [])) j ≡ Some end
        → IsSet (cond t at (length ends)) j new end
        ⊎ WasThere ends (cond t at (length ends)) j end
    by true = set_cases ends at j new end
    by false = push_cases ends j new end

-- ---- a leg that is at no place

-- an end that passes the test is at the first place, or behind one
pub found : (test : NearEnd → Bool) (ends : List NearEnd) (i : ℕ) (end : NearEnd)
    → slice_get ends i ≡ Some end → test end ≡ true
    → slice_get ends (first_where test ends) ≡ None → ⊥
unfolding first_where
found test [] i end at is none = absurd cc
found test (x ∷ xs) zero end at is none =
    let same : x ≡ end = cc in
    let first : test x ≡ true = ap test same ∙ is in
    let e : slice_get (x ∷ xs) (cond true 0 (1 + first_where test xs)) ≡ None =
    ap (λ t. slice_get (x ∷ xs) (cond t 0 (1 + first_where test xs))) (sym first) ∙ none in
    absurd cc
found test (x ∷ xs) (suc i) end at is none =
    elim (test x) as (λ t. slice_get (x ∷ xs) (cond t 0 (1 + first_where test xs)) ≡ None → ⊥) [
      | true ↦ λ n. absurd cc
      | false ↦ λ n. found test xs i end at is
          (ap (slice_get (x ∷ xs)) {x = suc (first_where test xs)} {y = 1 + first_where test xs}
          (omega arith) ∙ n)
    ] none

-- ---- tests on legs

number_same : (n : ℕ) → (n == n) ≡ true
number_same n = grind (arith, nat_tests)

kind_same : (k : LegKind) → (kind_number k == kind_number k) ≡ true
kind_same ClientOut = refl
kind_same OutServer = refl
kind_same ClientIn = refl
kind_same InServer = refl

pub same_is : (a b : Leg) → a ≡ b → same_leg a b ≡ true
same_is a b e = subst (λ (x : Leg). same_leg a x ≡ true) e (leg_itself a)
