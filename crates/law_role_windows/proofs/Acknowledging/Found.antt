-- what is so of each packet of a log is so of one that is on a leg
use Rattle.law_order.proofs.Vocabulary.{Bool, true, false, List, [], ◌∷◌, inl, inr, subst, if◌then◌else◌, AllByRecursion}
use Rattle.law_moves.proofs.Vocabulary.{Named, Leg, Message, Text, Pdu, Packet, same_leg, OnLeg, of_leg, Has, HasOne}
use Rattle.law_role_windows.specs.Acknowledging.Acks.{OfPacket}

pub found_on : (Is Q : Named → Type 0) (R : Type 0) → ((named : Named) → Is named → Q named → R)
    → (leg : Leg) (log : List OnLeg) → AllByRecursion (OfPacket Is) log
    → HasOne Q (of_leg leg log) → R
found_on Is Q R so leg [] all h = absurd h
found_on Is Q R so leg ((other, m) ∷ log) all h =
    by (same_leg other leg) m all.0 (found_on Is Q R so leg log all.1) h
  where
    by : (b : Bool) (n : Message) → OfPacket Is (other, n) → (HasOne Q (of_leg leg log) → R)
        → HasOne Q (if b then n ∷ of_leg leg log else of_leg leg log) → R
    by false n is rest one = rest one
    by true (Text bytes) is rest one = rest one
    by true (Pdu pdu) is rest one = rest one
    by true (Packet named) is rest (inl here) = so named is here
    by true (Packet named) is rest (inr more) = rest more

pub has_found : (Is : Named → Type 0) (named : Named) (leg : Leg) (log : List OnLeg)
    → AllByRecursion (OfPacket Is) log → Has named (of_leg leg log) → Is named
has_found Is named leg [] all h = absurd h
has_found Is named leg ((other, m) ∷ log) all h =
    by (same_leg other leg) (has_found Is named leg log all.1) h
  where
    by : (b : Bool) → (Has named (of_leg leg log) → Is named)
        → Has named (if b then m ∷ of_leg leg log else of_leg leg log) → Is named
    by false rest one = rest one
    by true rest (inl e) = subst (λ (n : Message). OfPacket Is (other, n)) e all.0
    by true rest (inr more) = rest more
