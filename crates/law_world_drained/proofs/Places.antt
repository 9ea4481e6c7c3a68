-- legs that a server finds by their numbers
use Rattle.law_order.proofs.Vocabulary.{◌≡◌, ℕ, ◌==◌, List, Some, None, refl, sym, ap, ◌∙◌, eqb-true, position, position-Some, get_or_from_slice_get, slice_get, Option}
use Rattle.rh_server.specs.States.{in_at, in_leg, in_place, out_at, out_leg, out_place}
use Rattle.rh_server.specs.declared.state.InLeg.{InLeg}
use Rattle.rh_server.specs.declared.state.OutLeg.{OutLeg}

-- the leg that is found has the number
module _ {A : Type 0} (number_of : A → ℕ) (n : ℕ) (legs : List A) where
  number_at : (place : ℕ) (leg : A) → position (λ (l : A). number_of l == n) legs ≡ Some place
      → slice_get legs place ≡ Some leg → number_of leg ≡ n
  number_at place leg first at =
      let found = position-Some (λ (l : A). number_of l == n) legs place leg first in
      eqb-true (number_of leg) n
      (ap (λ (l : A). number_of l == n) (sym (get_or_from_slice_get legs place leg leg at))
      ∙ found.1)

-- of an os leg, its place as well
pub record IsFound (n : ℕ) (legs : List OutLeg) (leg : OutLeg) : Type 0 where
  pub place : ℕ
  pub first : out_place n legs ≡ Some place
  pub at : slice_get legs place ≡ Some leg

module _ (n : ℕ) (legs : List OutLeg) (leg : OutLeg) (kept : out_leg n legs ≡ Some leg) where
  pub out_found : IsFound n legs leg
  out_found = by (out_place n legs) refl kept
    where
      by : (o : Option ℕ) → out_place n legs ≡ o → out_at legs o ≡ Some leg → IsFound n legs leg
      by None e at = absurd cc
      by (Some place) e at = record { place = place; first = e; at = at }

  pub out_number : leg.number ≡ n
  out_number =
      number_at (λ (l : OutLeg). l.number) n legs out_found.place leg out_found.first out_found.at

pub in_number : (n : ℕ) (legs : List InLeg) (leg : InLeg) → in_leg n legs ≡ Some leg
    → leg.number ≡ n
in_number n legs leg kept = by (in_place n legs) refl kept
  where
    by : (o : Option ℕ) → in_place n legs ≡ o → in_at legs o ≡ Some leg → leg.number ≡ n
    by None e at = absurd cc
    by (Some place) e at = number_at (λ (l : InLeg). l.number) n legs place leg e at
