-- the first bytes of what is fed of a leg
use Rattle.law_order.proofs.Vocabulary.{◌≡◌, ℕ, ◌+◌, List, [], ◌∷◌, ◌++◌, length, take, drop, Some, None, arith, sym, ap, ◌∙◌, append_assoc, append-nil, take-append-drop, take-append-add, slice_get, Option}
use Rattle.rh_wires.specs.Legs as legs
use Rattle.rh_wires.specs.Wires as wires
use Rattle.law_moves.proofs.Vocabulary.{Dir, Leg}
use Rattle.law_node_history.proofs.Vocabulary.{Legs, Wire, act_by}

-- a front of the bytes, and one byte more
pub record AreFronts (xs front : List ℕ) (b : ℕ) : Type 0 where
  pub is : take (length front) xs ≡ front
  pub more : take (length front + 1) xs ≡ front ++ b ∷ []

fronts : (xs front behind : List ℕ) (b count : ℕ) → take count xs ≡ front ++ b ∷ behind
    → AreFronts xs front b
fronts xs front behind b count e = record {
  is =
      ap (λ (k : ℕ). take k xs) (omega arith)
      ∙ ap (λ (ys : List ℕ). take (length front + 0) ys) all ∙ take-append-add front rest 0
      ∙ append-nil front;
  more = ap (λ (ys : List ℕ). take (length front + 1) ys) all ∙ take-append-add front rest 1;
}
  where
    rest : List ℕ
    rest = b ∷ behind ++ drop count xs

    all : xs ≡ front ++ rest
    all =
        sym (take-append-drop count xs) ∙ ap (λ (ys : List ℕ). ys ++ drop count xs) e
        ∙ append_assoc front (b ∷ behind) (drop count xs)

-- and so it is of those in flight on a leg
pub record FedFronts (leg : Leg) (dir : Dir) (all : Legs) (front : List ℕ) (b : ℕ) : Type 0 where
  pub is : (legs.take_out leg dir (length front) all).1 ≡ front
  pub more : (legs.take_out leg dir (length front + 1) all).1 ≡ front ++ b ∷ []

pub fed_fronts : (leg : Leg) (dir : Dir) (all : Legs) (count : ℕ) (front behind : List ℕ) (b : ℕ)
    → (legs.take_out leg dir count all).1 ≡ front ++ b ∷ behind → FedFronts leg dir all front b
fed_fronts leg dir all count front behind b e =
    let is = by (slice_get (legs.of leg.kind all) leg.number) e in
    record { is = is.0; more = is.1 }
  where
    list : List Wire
    list = legs.of leg.kind all

    out : ℕ → Option Wire → List ℕ
    out n o = (act_by (wires.take_out dir n) [] list leg.number o).1

    has_front : (front : List ℕ) → [] ≡ front ++ b ∷ behind → ⊥
    has_front [] f = absurd cc
    has_front (x ∷ xs) f = absurd cc

    by : (o : Option Wire) → out count o ≡ front ++ b ∷ behind
        → (out (length front) o ≡ front) × (out (length front + 1) o ≡ front ++ b ∷ [])
    by None f = absurd (has_front front f)
    by (Some wire) f =
        let is = fronts (wires.in_flight dir wire) front behind b count f in (is.is, is.more)
