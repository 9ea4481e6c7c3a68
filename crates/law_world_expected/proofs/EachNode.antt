-- a close of any node, on any leg: of the kinds of legs that it has, or none
use Rattle.law_order.proofs.Vocabulary.{◌≡◌, inl, inr, ℕ, ap, subst}
use Rattle.rh_record.specs.declared.answer.Who.TheVariants as who
use Rattle.law_moves.proofs.Vocabulary.{Leg, LegKind, ClientOut, OutServer, InServer}
use Rattle.law_node_history.proofs.Vocabulary.{Who, leg_at}
use Rattle.law_node_traces.proofs.Vocabulary.{IsOfOutProxy, IsOfServer}

-- no node closes so on the legs of its kinds, and on others neither
pub record ClosesNone (Closes : Who → Leg → Type 0) : Type 0 where
  pub client_leg : (leg : Leg) → Closes who.Client leg → leg.kind ≡ ClientOut
  pub client : (n : ℕ) → Closes who.Client (leg_at ClientOut n) → ⊥
  pub server_leg : (leg : Leg) → Closes who.Server leg → IsOfServer leg
  pub server_in : (n : ℕ) → Closes who.Server (leg_at InServer n) → ⊥
  pub server_out : (n : ℕ) → Closes who.Server (leg_at OutServer n) → ⊥
  pub in_proxy : (k : ℕ) (leg : Leg) → Closes (who.In k) leg → ⊥
  pub out_leg : (k : ℕ) (leg : Leg) → Closes (who.Out k) leg → IsOfOutProxy leg
  pub out_client : (k n : ℕ) → Closes (who.Out k) (leg_at ClientOut n) → ⊥
  pub out_server : (k n : ℕ) → Closes (who.Out k) (leg_at OutServer n) → ⊥

of_kind : (On : Leg → Type 0) (kind : LegKind) (leg : Leg) → leg.kind ≡ kind
    → ((n : ℕ) → On (leg_at kind n) → ⊥) → On leg → ⊥
of_kind On kind leg is none on =
    none leg.number (subst On (ap (λ (k : LegKind). leg_at k leg.number) is) on)

pub closes_none : (Closes : Who → Leg → Type 0) → ClosesNone Closes → (node : Who) (leg : Leg)
    → Closes node leg → ⊥
closes_none Closes none who.Client leg closes =
    of_kind (Closes who.Client) ClientOut leg (none.client_leg leg closes) none.client closes
closes_none Closes none who.Server leg closes = by (none.server_leg leg closes)
  where
    by : IsOfServer leg → ⊥
    by (inl is) = of_kind (Closes who.Server) InServer leg is none.server_in closes
    by (inr is) = of_kind (Closes who.Server) OutServer leg is none.server_out closes
closes_none Closes none (who.In k) leg closes = none.in_proxy k leg closes
closes_none Closes none (who.Out k) leg closes = by (none.out_leg k leg closes)
  where
    by : IsOfOutProxy leg → ⊥
    by (inl is) = of_kind (Closes (who.Out k)) ClientOut leg is (none.out_client k) closes
    by (inr is) = of_kind (Closes (who.Out k)) OutServer leg is (none.out_server k) closes
