-- packets of a log: how many of them pass a test, and what is said of each
use Rattle.law_order.proofs.Vocabulary.{Bool, true, false, if◌then◌else◌, List, [], ◌∷◌, ◌++◌, inl, inr}
use Rattle.law_moves.proofs.Vocabulary.{Named, Leg, Message, Text, Pdu, Packet, same_leg, OnLeg, of_leg, HasOne}
use Rattle.law_role_client.proofs.Vocabulary.{EachBehind}

-- ---- what is said of each message

module _ (Is : List OnLeg → OnLeg → Type 0) (P : Named → Type 0) (Q : Type 0)
    (so : (front : List OnLeg) (leg : Leg) (m : Named) → Is front (leg, Packet m) → P m → Q) where
  pub each_one : (leg : Leg) (front log : List OnLeg) → EachBehind Is front log
      → HasOne P (of_leg leg log) → Q
  each_one leg front [] h has = absurd has
  each_one leg front (one ∷ log) h has =
      by (same_leg one.0 leg) one.1 h.0 (each_one leg (front ++ one ∷ []) log h.1) has
    where
      by : (b : Bool) (message : Message) → Is front (one.0, message)
          → (HasOne P (of_leg leg log) → Q)
          → HasOne P (if b then message ∷ of_leg leg log else of_leg leg log) → Q
      by false message names rest has = rest has
      by true (Text bytes) names rest has = rest has
      by true (Pdu pdu) names rest has = rest has
      by true (Packet m) names rest (inl is) = so front one.0 m names is
      by true (Packet m) names rest (inr has) = rest has
