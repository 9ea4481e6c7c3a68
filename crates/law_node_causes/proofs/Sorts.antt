-- legs: when two are the same, and their order
use Rattle.law_order.proofs.Vocabulary.{◌≡◌, ℕ, List, Bool, true, false, nat_lt, Some, arith, refl, sym, ◌==◌, ◌&&◌, ◌||◌, not, slice_get, nat_tests}
use Rattle.law_moves.proofs.Vocabulary.{Leg, LegKind, NearEnd, kind_number, is_before, is_at, place}
use Rattle.law_moves.proofs.Lemmas.{kind_is, leg_is, here_is}

pub not_so : (t : Bool) → not t ≡ true → t ≡ false
not_so true h = absurd cc
not_so false h = refl

pub and_false : (t : Bool) → (t && false) ≡ false
and_false true = refl
and_false false = refl

pub and_true : (t : Bool) → (t && true) ≡ t
and_true true = refl
and_true false = refl

pub or_true : (t : Bool) → (t || true) ≡ true
or_true true = refl
or_true false = refl

-- ---- the same leg

pub of_kind : (k l : LegKind) → (kind_number k == kind_number l) ≡ true → l ≡ k
of_kind k l h = sym (kind_is k l h)

-- the end at a leg's place is of that leg
pub end_leg : (leg : Leg) (ends : List NearEnd) (end : NearEnd)
    → slice_get ends (place leg ends) ≡ Some end → end.leg ≡ leg
end_leg leg ends end at = leg_is end.leg leg (here_is (is_at leg) ends end at)

-- ---- the order of legs

before_by : (j k l : LegKind) (a b c : ℕ)
    → (nat_lt (kind_number j) (kind_number k)
    || ((kind_number j == kind_number k) && nat_lt a b)) ≡ true
    → (nat_lt (kind_number k) (kind_number l)
    || ((kind_number k == kind_number l) && nat_lt b c)) ≡ true
    → (nat_lt (kind_number j) (kind_number l)
    || ((kind_number j == kind_number l) && nat_lt a c)) ≡ true
before_by j k l a b c p q = by (kind_number j) (kind_number k) (kind_number l) p q
  where
    by : (x y z : ℕ) → (nat_lt x y || ((x == y) && nat_lt a b)) ≡ true
        → (nat_lt y z || ((y == z) && nat_lt b c)) ≡ true
        → (nat_lt x z || ((x == z) && nat_lt a c)) ≡ true
    by x y z p q = grind (arith, nat_tests)

pub before_trans : (a b c : Leg) → is_before a b ≡ true → is_before b c ≡ true
    → is_before a c ≡ true
before_trans a b c = before_by a.kind b.kind c.kind a.number b.number c.number

same_not : (x k : ℕ) → (nat_lt x x || ((x == x) && nat_lt k k)) ≡ false
same_not x k = grind (arith, nat_tests)

pub before_self : (a : Leg) → is_before a a ≡ false
before_self a = same_not (kind_number a.kind) a.number
