-- a front is told as one
use Rattle.law_order.proofs.Vocabulary.{◌≡◌, ◌++◌, ℕ, zero, suc, Bool, true, if◌then◌else◌, List, [], ◌∷◌, length, refl, sym, ap, ap₂, ◌∙◌, subst, inl, inr, eq-eqb, bytes_eq, bytes_eq-Decides, IsPrefix, drop, get_or, pdus, has_handover, IsRoute, Route}
use Rattle.rh_audit.specs.Audits.{common, prefixed}
use Rattle.rh_audit.specs.Chains.{Leg, joined}
use Rattle.rh_audit.specs.declared.prefixed.Prefixed.TheVariants.{Yes, No}
use Rattle.law_audit.specs.FarAndNear.Seen.{IsSeenFar, IsSeenNear, Side, pdus_seen, walked}
use Rattle.law_audit.specs.Carrying.Fronts.{AreInOrder, AreLegsOf, IsNumber}

same_bytes : (a : List ℕ) → bytes_eq a a ≡ true
same_bytes a = (bytes_eq-Decides a a).1 refl

common_all : (far near : List (List ℕ)) → IsPrefix far near → common far near ≡ length far
common_all [] near p = refl
common_all (pdu ∷ far) [] p = absurd (let e = p.1 in cc)
common_all (pdu ∷ far) (other ∷ near) p =
    let first : pdu ≡ other = ap (λ (l : List (List ℕ)). get_or l 0 []) p.1 in
    let rest : IsPrefix far near = (p.0, ap (drop 1) p.1) in
    ap (λ (t : Bool). if t then suc (common far near) else 0)
    (ap (bytes_eq pdu) (sym first) ∙ same_bytes pdu)
    ∙ ap suc (common_all far near rest)

pub told_yes : (far near : List (List ℕ)) → IsPrefix far near
    → prefixed far near ≡ Yes (length far) (length near)
told_yes far near p =
    ap (λ (t : Bool). if t then Yes (length far) (length near) else No (common far near))
    (eq-eqb (common far near) (length far) (common_all far near p))

-- ---- legs in order

-- what a leg and those behind it carried
one_leg : (leg : Leg) (legs : List Leg)
    → joined (leg ∷ legs) ≡ leg.pdus ++ (if leg.marked then joined legs else [])
unfolding joined
one_leg leg legs = refl

no_legs : joined [] ≡ []
unfolding joined
no_legs = refl

module _ (side : Side) where
  abbrev Walked : ℕ → ℕ → List (List ℕ)
  Walked n more = walked side.there side.seen n more

  here : (n more : ℕ) (legs rest : List Leg) → IsNumber side n legs
      → joined rest ≡ Walked (suc n) more → joined (legs ++ rest) ≡ Walked n (suc more)
  here n more legs rest (inl none) later =
      ap (λ (front : List Leg). joined (front ++ rest)) none.1 ∙ later
      ∙ sym (ap (λ (t : Bool). if t
      then pdus (side.seen n) ++ (if has_handover (side.seen n) then Walked (suc n) more else [])
      else Walked (suc n) more) none.0)
  here n more legs rest (inr is) later =
      ap (λ (front : List Leg). joined (front ++ rest)) is.is
      ∙ one_leg is.leg rest
      ∙ ap₂ (λ (front : List (List ℕ)) (t : Bool). front ++ (if t then joined rest else []))
      is.pdus_are is.marked
      ∙ ap (λ (behind : List (List ℕ)).
      pdus (side.seen n) ++ (if has_handover (side.seen n) then behind else [])) later
      ∙ sym (ap (λ (t : Bool). if t
      then pdus (side.seen n) ++ (if has_handover (side.seen n) then Walked (suc n) more else [])
      else Walked (suc n) more) is.there)

  in_order : (n more : ℕ) (legs : List Leg) → AreInOrder side n more legs
      → joined legs ≡ Walked n more
  in_order n zero legs none = ap joined none ∙ no_legs
  in_order n (suc more) legs (front, rest, is, number, behind) =
      ap joined is ∙ here n more front rest number (in_order (suc n) more rest behind)

  pub walked_is : (legs : List Leg) → AreLegsOf side legs → joined legs ≡ pdus_seen side
  walked_is legs all = in_order 0 (suc side.most) legs all

pub yes : ((r : Route) (near far : Side) → IsRoute r → IsSeenNear r near → IsSeenFar r far
    → IsPrefix (pdus_seen far) (pdus_seen near))
    → (r : Route) (near far : Side) (near_legs far_legs : List Leg) → IsRoute r
    → IsSeenNear r near → IsSeenFar r far → AreLegsOf near near_legs → AreLegsOf far far_legs
    → prefixed (joined far_legs) (joined near_legs)
    ≡ Yes (length (joined far_legs)) (length (joined near_legs))
yes law r near far near_legs far_legs route n f near_are far_are =
    told_yes (joined far_legs) (joined near_legs)
    (subst (λ (x : List (List ℕ)). IsPrefix x (joined near_legs))
    (sym (walked_is far far_legs far_are))
    (subst (λ (x : List (List ℕ)). IsPrefix (pdus_seen far) x)
    (sym (walked_is near near_legs near_are)) (law r near far route n f)))
