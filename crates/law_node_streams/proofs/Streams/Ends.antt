-- the ends of a node: which one a leg has, and how it changes
use Rattle.law_order.proofs.Vocabulary.{◌≡◌, ◌⊎◌, inl, inr, ℕ, zero, suc, ◌+◌, ◌<◌, List, [], ◌∷◌, ◌++◌, length, cond, Bool, true, false, nat_lt, Some, None, arith, refl, sym, ap, ◌∙◌, subst, All, slice_get, slice_set, Option, slice_get_within, get_or_from_slice_get, nat_tests}
use Rattle.law_moves.proofs.Vocabulary.{Leg, NearEnd, same_leg, first_where, place, seated_at}
use Rattle.law_moves.proofs.Lemmas.{leg_is}
use Rattle.law_node_history.proofs.Lemmas.{same_itself}

-- ---- the first end of a leg

abbrev pub end_of : Leg → List NearEnd → Option NearEnd
end_of leg [] = None
end_of leg (end ∷ ends) = cond (same_leg end.leg leg) (Some end) (end_of leg ends)

pub end_is : (leg : Leg) (ends : List NearEnd)
    → slice_get ends (place leg ends) ≡ end_of leg ends
unfolding first_where
end_is leg [] = refl
end_is leg (end ∷ ends) = by (same_leg end.leg leg) (end_is leg ends)
  where
    by : (t : Bool) → slice_get ends (place leg ends) ≡ end_of leg ends
        → slice_get (end ∷ ends) (cond t 0 (1 + place leg ends))
        ≡ cond t (Some end) (end_of leg ends)
    by true e = refl
    by false e =
        ap (slice_get (end ∷ ends)) {x = 1 + place leg ends} {y = suc (place leg ends)}
        (omega arith) ∙ e

-- each leg has one end at most
abbrev pub AreApart : List NearEnd → Type 0
AreApart [] = Unit {0}
AreApart (end ∷ ends) = (end_of end.leg ends ≡ None) × AreApart ends

-- ---- an end of the same leg in its place

pub set_here : (leg : Leg) (ends : List NearEnd) (end new : NearEnd)
    → end_of leg ends ≡ Some end → new.leg ≡ end.leg
    → end_of leg (slice_set ends (place leg ends) new) ≡ Some new
unfolding first_where
set_here leg [] end new at same = absurd cc
set_here leg (x ∷ xs) end new at same =
    elim (same_leg x.leg leg) as (λ t. same_leg x.leg leg ≡ t
    → cond t (Some x) (end_of leg xs) ≡ Some end
    → end_of leg (slice_set (x ∷ xs) (cond t 0 (1 + place leg xs)) new) ≡ Some new) [
      | true ↦ λ e. λ a.
          let is : x ≡ end = cc in
          ap (λ t. cond t (Some new) (end_of leg xs))
          (ap (λ (l : Leg). same_leg l leg) (same ∙ ap (λ (y : NearEnd). y.leg) (sym is)) ∙ e)
      | false ↦ λ e. λ a.
          ap (λ n. end_of leg (slice_set (x ∷ xs) n new)) {x = 1 + place leg xs}
          {y = suc (place leg xs)} (omega arith)
          ∙ ap (λ t. cond t (Some x) (end_of leg (slice_set xs (place leg xs) new))) e
          ∙ set_here leg xs end new a same
    ] refl at

-- an end at any place, in which another leg's end is put: the first leg is left, or forgotten
abbrev pub IsLeftOf : Option NearEnd → Option NearEnd → Type 0
IsLeftOf old None = Unit {0}
IsLeftOf old (Some end) = old ≡ Some end

left_same : (o : Option NearEnd) → IsLeftOf o o
left_same None = tt
left_same (Some end) = refl

pub set_other : (leg : Leg) (ends : List NearEnd) (i : ℕ) (new : NearEnd)
    → same_leg new.leg leg ≡ false → AreApart ends
    → IsLeftOf (end_of leg ends) (end_of leg (slice_set ends i new))
set_other leg [] i new other apart = tt
set_other leg (x ∷ xs) zero new other apart =
    subst (λ t. IsLeftOf (end_of leg (x ∷ xs)) (cond t (Some new) (end_of leg xs))) (sym other)
    (elim (same_leg x.leg leg) as (λ t. same_leg x.leg leg ≡ t
    → IsLeftOf (cond t (Some x) (end_of leg xs)) (end_of leg xs)) [
      | true ↦ λ e.
          subst (λ (o : Option NearEnd). IsLeftOf (Some x) o)
          (sym (ap (λ (l : Leg). end_of l xs) (sym (leg_is x.leg leg e)) ∙ apart.0)) tt
      | false ↦ λ e. left_same (end_of leg xs)
    ] refl)
set_other leg (x ∷ xs) (suc i) new other apart =
    by (same_leg x.leg leg) (set_other leg xs i new other apart.1)
  where
    by : (t : Bool) → IsLeftOf (end_of leg xs) (end_of leg (slice_set xs i new))
        → IsLeftOf (cond t (Some x) (end_of leg xs))
        (cond t (Some x) (end_of leg (slice_set xs i new)))
    by true l = refl
    by false l = l

pub left_none : (a b : Option NearEnd) → IsLeftOf a b → a ≡ None → b ≡ None
left_none a None l e = refl
left_none a (Some end) l e = absurd (let bad : None ≡ Some end = sym e ∙ l in cc)

-- ---- an end is put for a leg that has none

flip : (a b : Leg) → same_leg a b ≡ false → same_leg b a ≡ false
flip a b e = grind (arith, nat_tests)

pub none_in : (leg : Leg) (x : NearEnd) (xs : List NearEnd) → end_of leg (x ∷ xs) ≡ None
    → (same_leg x.leg leg ≡ false) × (end_of leg xs ≡ None)
none_in leg x xs none = by (same_leg x.leg leg) none
  where
    by : (t : Bool) → cond t (Some x) (end_of leg xs) ≡ None
        → (t ≡ false) × (end_of leg xs ≡ None)
    by true n = absurd cc
    by false n = (refl, n)

set_apart : (ends : List NearEnd) (i : ℕ) (new : NearEnd) → end_of new.leg ends ≡ None
    → AreApart ends → AreApart (slice_set ends i new)
set_apart [] i new none apart = tt
set_apart (x ∷ xs) zero new none apart = ((none_in new.leg x xs none).1, apart.1)
set_apart (x ∷ xs) (suc i) new none apart =
    let two = none_in new.leg x xs none in (
      left_none (end_of x.leg xs) (end_of x.leg (slice_set xs i new))
          (set_other x.leg xs i new (flip x.leg new.leg two.0) apart.1) apart.0,
      set_apart xs i new two.1 apart.1,
    )

set_new : (leg : Leg) (ends : List NearEnd) (i : ℕ) (new : NearEnd) → new.leg ≡ leg
    → end_of leg ends ≡ None → i < length ends → end_of leg (slice_set ends i new) ≡ Some new
set_new leg [] i new is none below = absurd (omega (arith, below))
set_new leg (x ∷ xs) zero new is none below =
    ap (λ t. cond t (Some new) (end_of leg xs))
    (ap (λ (l : Leg). same_leg l leg) is ∙ same_itself leg)
set_new leg (x ∷ xs) (suc i) new is none below =
    let two = none_in leg x xs none in
    ap (λ t. cond t (Some x) (end_of leg (slice_set xs i new))) two.0
    ∙ set_new leg xs i new is two.1 (omega (arith, below))

push_is : (leg : Leg) (ends : List NearEnd) (new : NearEnd)
    → end_of leg ends ≡ None ⊎ same_leg new.leg leg ≡ false
    → end_of leg (ends ++ new ∷ []) ≡ cond (same_leg new.leg leg) (Some new) (end_of leg ends)
push_is leg [] new apart = refl
push_is leg (x ∷ xs) new (inl none) =
    let two = none_in leg x xs none in
    ap (λ t. cond t (Some x) (end_of leg (xs ++ new ∷ []))) two.0
    ∙ push_is leg xs new (inl two.1)
    ∙ ap (λ t. cond (same_leg new.leg leg) (Some new) (cond t (Some x) (end_of leg xs)))
    (sym two.0)
push_is leg (x ∷ xs) new (inr other) =
    ap (λ o. cond (same_leg x.leg leg) (Some x) o)
    (push_is leg xs new (inr other) ∙ ap (λ t. cond t (Some new) (end_of leg xs)) other)
    ∙ ap (λ t. cond t (Some new) (end_of leg (x ∷ xs))) (sym other)

push_apart : (ends : List NearEnd) (new : NearEnd) → end_of new.leg ends ≡ None
    → AreApart ends → AreApart (ends ++ new ∷ [])
push_apart [] new none apart = (refl, tt)
push_apart (x ∷ xs) new none apart =
    let two = none_in new.leg x xs none in (
      push_is x.leg xs new (inl apart.0)
          ∙ ap (λ t. cond t (Some new) (end_of x.leg xs)) (flip x.leg new.leg two.0) ∙ apart.0,
      push_apart xs new two.1 apart.1,
    )

-- seated at a place, or behind all
module _ (ends : List NearEnd) (i : ℕ) (new : NearEnd) (none : end_of new.leg ends ≡ None)
    (apart : AreApart ends) where
  pub seated_apart : AreApart (seated_at ends i new)
  seated_apart = by (nat_lt i (length ends))
    where
      by : (t : Bool) → AreApart (cond t (slice_set ends i new) (ends ++ new ∷ []))
      by true = set_apart ends i new none apart
      by false = push_apart ends new none apart

  pub seated_new : end_of new.leg (seated_at ends i new) ≡ Some new
  seated_new = by (nat_lt i (length ends)) refl
    where
      by : (t : Bool) → nat_lt i (length ends) ≡ t
          → end_of new.leg (cond t (slice_set ends i new) (ends ++ new ∷ [])) ≡ Some new
      by true e = set_new new.leg ends i new refl none (grind (arith, nat_tests))
      by false e =
          push_is new.leg ends new (inl none)
          ∙ ap (λ t. cond t (Some new) (end_of new.leg ends)) (same_itself new.leg)

  pub seated_other : (leg : Leg) → same_leg new.leg leg ≡ false
      → IsLeftOf (end_of leg ends) (end_of leg (seated_at ends i new))
  seated_other leg other = by (nat_lt i (length ends))
    where
      by : (t : Bool)
          → IsLeftOf (end_of leg ends) (end_of leg (cond t (slice_set ends i new)
          (ends ++ new ∷ [])))
      by true = set_other leg ends i new other apart
      by false =
          subst (IsLeftOf (end_of leg ends))
          (sym (push_is leg ends new (inr other)
          ∙ ap (λ t. cond t (Some new) (end_of leg ends)) other)) (left_same (end_of leg ends))

-- ---- an end of the same leg

pub set_beside : (k leg : Leg) (ends : List NearEnd) (end new : NearEnd)
    → end_of k ends ≡ Some end → new.leg ≡ end.leg → same_leg k leg ≡ false
    → end_of leg (slice_set ends (place k ends) new) ≡ end_of leg ends
unfolding first_where
set_beside k leg [] end new at same other = refl
set_beside k leg (x ∷ xs) end new at same other =
    elim (same_leg x.leg k) as (λ t. same_leg x.leg k ≡ t → cond t (Some x) (end_of k xs) ≡ Some end
    → end_of leg (slice_set (x ∷ xs) (cond t 0 (1 + place k xs)) new) ≡ end_of leg (x ∷ xs)) [
      | true ↦ λ e. λ a.
          let is : x ≡ end = cc in
          let legs : new.leg ≡ x.leg = same ∙ ap (λ (y : NearEnd). y.leg) (sym is) in
          let apart : same_leg x.leg leg ≡ false =
          ap (λ (l : Leg). same_leg l leg) (leg_is x.leg k e) ∙ other in
          ap (λ t. cond t (Some new) (end_of leg xs))
          (ap (λ (l : Leg). same_leg l leg) legs ∙ apart)
          ∙ ap (λ t. cond t (Some x) (end_of leg xs)) (sym apart)
      | false ↦ λ e. λ a.
          ap (λ n. end_of leg (slice_set (x ∷ xs) n new)) {x = 1 + place k xs}
          {y = suc (place k xs)} (omega arith)
          ∙ ap (λ o. cond (same_leg x.leg leg) (Some x) o)
          (set_beside k leg xs end new a same other)
    ] refl at

pub same_apart : (k : Leg) (ends : List NearEnd) (end new : NearEnd)
    → end_of k ends ≡ Some end → new.leg ≡ end.leg → AreApart ends
    → AreApart (slice_set ends (place k ends) new)
unfolding first_where
same_apart k [] end new at same apart = tt
same_apart k (x ∷ xs) end new at same apart =
    elim (same_leg x.leg k) as (λ t. same_leg x.leg k ≡ t → cond t (Some x) (end_of k xs) ≡ Some end
    → AreApart (slice_set (x ∷ xs) (cond t 0 (1 + place k xs)) new)) [
      | true ↦ λ e. λ a.
          let is : x ≡ end = cc in
          let legs : x.leg ≡ new.leg = ap (λ (y : NearEnd). y.leg) is ∙ sym same in
          (subst (λ (l : Leg). end_of l xs ≡ None) legs apart.0, apart.1)
      | false ↦ λ e. λ a.
          subst (λ n. AreApart (slice_set (x ∷ xs) n new)) {x = suc (place k xs)}
          {y = 1 + place k xs} (omega arith) (
            set_beside k x.leg xs end new a same (flip x.leg k e) ∙ apart.0,
            same_apart k xs end new a same apart.1,
          )
    ] refl at

-- the end of a leg is on it
pub end_leg : (leg : Leg) (ends : List NearEnd) (end : NearEnd) → end_of leg ends ≡ Some end
    → same_leg end.leg leg ≡ true
end_leg leg [] end at = absurd cc
end_leg leg (x ∷ xs) end at =
    elim (same_leg x.leg leg) as (λ t. same_leg x.leg leg ≡ t
    → cond t (Some x) (end_of leg xs) ≡ Some end → same_leg end.leg leg ≡ true) [
      | true ↦ λ e. λ a. let is : x ≡ end = cc in subst (λ y. same_leg y.leg leg ≡ true) is e
      | false ↦ λ e. λ a. end_leg leg xs end a
    ] refl at

-- a property of all ends is one of a leg's end
pub end_has : (P : NearEnd → Type 0) (leg : Leg) (ends : List NearEnd) (end : NearEnd)
    → end_of leg ends ≡ Some end → All P ends → P end
end_has P leg ends end at all =
    let place_at = end_is leg ends ∙ at in
    subst P (get_or_from_slice_get ends (place leg ends) end end place_at)
    (all (place leg ends) end (slice_get_within ends (place leg ends) end place_at))
