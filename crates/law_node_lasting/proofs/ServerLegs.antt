-- the is legs that a server keeps: what holds of each, and whether one has a number
use Rattle.law_order.proofs.Vocabulary.{◌≡◌, ℕ, zero, suc, ◌+◌, ◌==◌, cond, List, [], ◌∷◌, ◌++◌, Bool, true, false, true≢false, Some, None, refl, sym, ap, ◌∙◌, subst, slice_get, slice_set, remove, IfSome, AllByRecursion, Option}
use Rattle.law_moves.proofs.Vocabulary.{same_number, test_same}
use Rattle.law_role_server.proofs.Vocabulary.{InLeg, in_place, in_at, in_leg, set_at, removed_at}
use Rattle.law_role_server.proofs.Counted.InLegs.{place_step, next_place}
use Rattle.law_role_server_in.proofs.Takes.{IsKept}

-- ---- each leg

module _ (P : InLeg → Type 0) where
  slice_each : (legs : List InLeg) (place : ℕ) → AllByRecursion P legs
      → IfSome (slice_get legs place) P
  slice_each [] place all = tt
  slice_each (leg ∷ legs) zero all = all.0
  slice_each (leg ∷ legs) (suc place) all = slice_each legs place all.1

  set_each : (legs : List InLeg) (place : ℕ) (leg : InLeg) → P leg → AllByRecursion P legs
      → AllByRecursion P (slice_set legs place leg)
  set_each [] place leg here all = tt
  set_each (other ∷ legs) zero leg here all = (here, all.1)
  set_each (other ∷ legs) (suc place) leg here all = (all.0, set_each legs place leg here all.1)

  gone_each : (legs : List InLeg) (place : ℕ) → AllByRecursion P legs
      → AllByRecursion P (remove legs place)
  gone_each [] zero all = tt
  gone_each [] (suc place) all = tt
  gone_each (leg ∷ legs) zero all = all.1
  gone_each (leg ∷ legs) (suc place) all = (all.0, gone_each legs place all.1)

  pub each_found : (legs : List InLeg) (place : Option ℕ) → AllByRecursion P legs
      → IfSome (in_at legs place) P
  each_found legs None all = tt
  each_found legs (Some place) all = slice_each legs place all

  pub each_set : (legs : List InLeg) (leg : InLeg) (place : Option ℕ) → P leg
      → AllByRecursion P legs → AllByRecursion P (set_at legs leg place)
  each_set legs leg None here all = all
  each_set legs leg (Some place) here all = set_each legs place leg here all

  pub each_gone : (legs : List InLeg) (place : Option ℕ) → AllByRecursion P legs
      → AllByRecursion P (removed_at legs place)
  each_gone legs None all = all
  each_gone legs (Some place) all = gone_each legs place all

-- ---- a leg of this number

abbrev pub has_number : ℕ → List InLeg → Bool
has_number n [] = false
has_number n (leg ∷ legs) = cond (leg.number == n) true (has_number n legs)

in_first : (n : ℕ) (leg : InLeg) (legs : List InLeg)
    → in_leg n (leg ∷ legs) ≡ cond (leg.number == n) (Some leg) (in_leg n legs)
in_first n leg legs =
    ap (in_at (leg ∷ legs)) (place_step (λ (l : InLeg). l.number == n) leg legs)
    ∙ by (leg.number == n)
  where
    further : (place : Option ℕ) → in_at (leg ∷ legs) (next_place place) ≡ in_at legs place
    further None = refl
    further (Some place) = refl

    by : (b : Bool)
        → in_at (leg ∷ legs) (cond b (Some 0) (next_place (in_place n legs)))
        ≡ cond b (Some leg) (in_leg n legs)
    by true = refl
    by false = further (in_place n legs)

-- one that is found has it, and one is found where one has it
abbrev pub IsFound : ℕ → Bool → Option InLeg → Type 0
IsFound n has None = has ≡ false
IsFound n has (Some leg) = leg.number ≡ n

pub found_number : (n : ℕ) (legs : List InLeg) → IsFound n (has_number n legs) (in_leg n legs)
found_number n [] = refl
found_number n (leg ∷ legs) =
    subst (IsFound n (has_number n (leg ∷ legs))) (sym (in_first n leg legs))
    (by (leg.number == n) refl (found_number n legs))
  where
    by : (b : Bool) → leg.number == n ≡ b → IsFound n (has_number n legs) (in_leg n legs)
        → IsFound n (cond b true (has_number n legs)) (cond b (Some leg) (in_leg n legs))
    by true e rest = same_number leg.number n e
    by false e rest = rest

pub number_set : (n : ℕ) (legs : List InLeg) (leg : InLeg)
    → has_number n (set_at legs leg (in_place leg.number legs)) ≡ has_number n legs
number_set n [] leg = refl
number_set n (other ∷ legs) leg =
    ap (λ place. has_number n (set_at (other ∷ legs) leg place))
    (place_step (λ (l : InLeg). l.number == leg.number) other legs)
    ∙ by (other.number == leg.number) refl (number_set n legs leg)
  where
    further : (place : Option ℕ) → has_number n (set_at (other ∷ legs) leg (next_place place))
        ≡ cond (other.number == n) true (has_number n (set_at legs leg place))
    further None = refl
    further (Some place) = refl

    by : (b : Bool) → other.number == leg.number ≡ b
        → has_number n (set_at legs leg (in_place leg.number legs)) ≡ has_number n legs
        → has_number n (set_at (other ∷ legs) leg
        (cond b (Some 0) (next_place (in_place leg.number legs))))
        ≡ cond (other.number == n) true (has_number n legs)
    by true e rest =
        ap (λ (k : ℕ). cond (k == n) true (has_number n legs))
        (sym (same_number other.number leg.number e))
    by false e rest =
        further (in_place leg.number legs)
        ∙ ap (λ (t : Bool). cond (other.number == n) true t) rest

pub number_gone : (n k : ℕ) (legs : List InLeg) → k == n ≡ false
    → has_number n (removed_at legs (in_place k legs)) ≡ has_number n legs
number_gone n k [] o = refl
number_gone n k (other ∷ legs) o =
    ap (λ place. has_number n (removed_at (other ∷ legs) place))
    (place_step (λ (l : InLeg). l.number == k) other legs)
    ∙ by (other.number == k) refl (number_gone n k legs o)
  where
    further : (place : Option ℕ)
        → has_number n (removed_at (other ∷ legs) (next_place place))
        ≡ cond (other.number == n) true (has_number n (removed_at legs place))
    further None = refl
    further (Some place) = refl

    by : (b : Bool) → other.number == k ≡ b
        → has_number n (removed_at legs (in_place k legs)) ≡ has_number n legs
        → has_number n (removed_at (other ∷ legs)
        (cond b (Some 0) (next_place (in_place k legs))))
        ≡ cond (other.number == n) true (has_number n legs)
    by true e rest =
        sym (ap (λ (t : Bool). cond t true (has_number n legs))
        (ap (λ (j : ℕ). j == n) (same_number other.number k e) ∙ o))
    by false e rest =
        further (in_place k legs) ∙ ap (λ (t : Bool). cond (other.number == n) true t) rest

pub number_more : (n : ℕ) (legs : List InLeg) (leg : InLeg) → has_number n legs ≡ true
    → has_number n (legs ++ leg ∷ []) ≡ true
number_more n [] leg e = absurd (true≢false (sym e))
number_more n (other ∷ legs) leg e = by (other.number == n) e (number_more n legs leg)
  where
    by : (b : Bool) → cond b true (has_number n legs) ≡ true
        → (has_number n legs ≡ true → has_number n (legs ++ leg ∷ []) ≡ true)
        → cond b true (has_number n (legs ++ leg ∷ [])) ≡ true
    by true e rest = refl
    by false e rest = rest e

pub number_last : (n : ℕ) (legs : List InLeg) (leg : InLeg) → leg.number ≡ n
    → has_number n (legs ++ leg ∷ []) ≡ true
number_last n [] leg e =
    ap (λ (k : ℕ). cond (k == n) true false) e
    ∙ ap (λ (t : Bool). cond t true false) (test_same n)
number_last n (other ∷ legs) leg e = by (other.number == n) (number_last n legs leg e)
  where
    by : (b : Bool) → has_number n (legs ++ leg ∷ []) ≡ true
        → cond b true (has_number n (legs ++ leg ∷ [])) ≡ true
    by true rest = refl
    by false rest = rest

-- one that is found has the number
pub has_kept : (n : ℕ) (legs : List InLeg) → IsKept (in_leg n legs) → has_number n legs ≡ true
has_kept n [] kept = absurd kept
has_kept n (leg ∷ legs) kept =
    by (leg.number == n) (subst IsKept (in_first n leg legs) kept) (has_kept n legs)
  where
    by : (b : Bool) → IsKept (cond b (Some leg) (in_leg n legs))
        → (IsKept (in_leg n legs) → has_number n legs ≡ true)
        → cond b true (has_number n legs) ≡ true
    by true there rest = refl
    by false there rest = rest there
