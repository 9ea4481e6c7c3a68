-- the place of an is leg that is kept
use Rattle.law_order.proofs.Vocabulary.{◌≡◌, ℕ, zero, suc, ◌+◌, ◌<◌, ◌==◌, cond, nat_lt, not, Bool, true, false, List, [], ◌∷◌, length, Some, None, arith, refl, sym, ap, ◌∙◌, subst, nat_tests, IfSome, slice_get, position_or_len, Option}
use Rattle.law_moves.proofs.Vocabulary.{test_same}
use Rattle.law_role_server.proofs.Vocabulary.{InLeg, in_at, in_place}
use Rattle.law_role_server_rows.proofs.Putting.Each.{number_found}

pub record Found (legs : List InLeg) (leg : InLeg) : Type 0 where
  pub place : ℕ
  pub at : slice_get legs place ≡ Some leg

pub found_at : (legs : List InLeg) (place : Option ℕ) → IfSome (in_at legs place) (Found legs)
found_at legs None = tt
found_at legs (Some place) = by (slice_get legs place) refl
  where
    by : (o : Option InLeg) → slice_get legs place ≡ o → IfSome o (Found legs)
    by None at = tt
    by (Some leg) at = record { place = place; at = at }

-- the first leg of its number has a place
pub record Placed (legs : List InLeg) (number : ℕ) : Type 0 where
  pub place : ℕ
  pub is : in_place number legs ≡ Some place
  pub leg : InLeg
  pub at : slice_get legs place ≡ Some leg
  pub same : leg.number ≡ number

pub there_is : (legs : List InLeg) (place : ℕ) → place < length legs → slice_get legs place ≡ None → ⊥
there_is [] place less e = absurd (omega (arith, less))
there_is (x ∷ legs) zero less e = absurd (cc)
there_is (x ∷ legs) (suc place) less e = there_is legs place (omega (arith, less)) e

pub less_so : (test : InLeg → Bool) (legs : List InLeg) (i : ℕ) (leg : InLeg)
    → slice_get legs i ≡ Some leg → test leg ≡ true → position_or_len test legs < length legs
less_so test [] i leg at passes = absurd (cc)
less_so test (x ∷ legs) zero leg at passes =
    subst (λ (b : Bool). cond (not b) (1 + position_or_len test legs) 0 < suc (length legs))
    (sym (ap test (one x leg at) ∙ passes)) (omega arith)
  where
    one : (x y : InLeg) → Some x ≡ Some y → x ≡ y
    one x y e = cc
less_so test (x ∷ legs) (suc i) leg at passes =
    by (test x) (less_so test legs i leg at passes)
  where
    by : (b : Bool) → position_or_len test legs < length legs
        → cond (not b) (1 + position_or_len test legs) 0 < suc (length legs)
    by true less = omega arith
    by false less = omega (arith, less)

pub placed : (legs : List InLeg) (leg : InLeg) → Found legs leg → Placed legs leg.number
placed legs leg f = by (slice_get legs place) refl (number_found leg.number legs (Some place) is)
  where
    test : InLeg → Bool
    test x = x.number == leg.number

    place : ℕ
    place = position_or_len test legs

    less : place < length legs
    less = less_so test legs f.place leg f.at (test_same leg.number)

    lt : (a b : ℕ) → a < b → nat_lt a b ≡ true
    lt a b h = grind (arith, nat_tests, h)

    is : in_place leg.number legs ≡ Some place
    is = ap (λ (b : Bool). cond b (Some place) None) (lt place (length legs) less)

    by : (o : Option InLeg) → slice_get legs place ≡ o
        → IfSome o (λ (x : InLeg). x.number ≡ leg.number) → Placed legs leg.number
    by None at same = absurd (there_is legs place less at)
    by (Some x) at same = record { place = place; is = is; leg = x; at = at; same = same }
