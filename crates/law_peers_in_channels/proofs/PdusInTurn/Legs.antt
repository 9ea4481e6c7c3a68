-- tests of legs
use Rattle.law_order.proofs.Vocabulary.{◌≡◌, ℕ, ◌==◌, ◌&&◌, Bool, true, false, nat_eq, refl, ap, ◌∙◌, arith, nat_tests}
use Rattle.law_moves.proofs.Vocabulary.{Leg, LegKind, is_of, kind_number, same_leg}

turned : (k n : ℕ) → (k == n) ≡ nat_eq n k
turned k n = by (k == n) (nat_eq n k) refl refl
  where
    by : (a b : Bool) → (k == n) ≡ a → nat_eq n k ≡ b → a ≡ b
    by true true e f = refl
    by false false e f = refl
    by true false e f = absurd (grind (arith, nat_tests, e, f))
    by false true e f = absurd (grind (arith, nat_tests, e, f))

pub same_bool : (leg : Leg) (kind : LegKind) (n : ℕ)
    → same_leg leg (record { kind = kind; number = n }) ≡ is_of kind leg && nat_eq n leg.number
same_bool leg kind n =
    ap (λ (b : Bool). b && (leg.number == n))
    (turned (kind_number leg.kind) (kind_number kind))
    ∙ ap (λ (b : Bool). is_of kind leg && b) (turned leg.number n)
