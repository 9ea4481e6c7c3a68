-- handover marks among what a server took, by counts
use Rattle.law_order.proofs.Vocabulary.{◌≡◌, ℕ, ◌≤◌, ◌&&◌, Bool, true, false, true≢false, nat_eq, if◌then◌else◌, List, [], ◌∷◌, ◌++◌, refl, sym, subst, arith, Item, has_handover}
use Rattle.rh_sig.specs.declared.named.Named.TheVariants as named
use Rattle.law_moves.proofs.Vocabulary.{InServer, Message, Text, Pdu, Packet, is_of, OnLeg, of_leg, count_of}
use Rattle.law_role_server.proofs.Vocabulary.{in_items, items_if, items_on, is_in_r1_a6, leg_at}
use Rattle.law_peers_in_channels.proofs.PdusInTurn.Legs.{same_bool}

-- the mark is among the items where IN_R1/A6 is among the messages, and only there
pub record Alike (items : List Item) (ms : List Message) : Type 0 where
  pub some : has_handover items ≡ true → 1 ≤ count_of is_in_r1_a6 ms
  pub none : has_handover items ≡ false → count_of is_in_r1_a6 ms ≡ 0

one_alike : (m : Message) (items : List Item) (ms : List Message) → Alike items ms
    → Alike (in_items m ++ items) (m ∷ ms)
one_alike (Text bytes) items ms h = record { some = h.some; none = h.none }
one_alike (Pdu pdu) items ms h = record { some = h.some; none = h.none }
one_alike (Packet named.EndA2) items ms h = record { some = h.some; none = h.none }
one_alike (Packet (named.InR1A6 successor)) items ms h = record {
  some = λ e. omega arith;
  none = λ e. absurd (true≢false e);
}
one_alike (Packet packet) items ms h = record { some = h.some; none = h.none }

pub marks : (n : ℕ) (log : List OnLeg)
    → Alike (items_on in_items InServer log n) (of_leg (leg_at InServer n) log)
marks n [] = record { some = λ e. absurd (true≢false (sym e)); none = λ e. refl }
marks n ((leg, m) ∷ log) =
    subst (λ (b : Bool). Alike (items_on in_items InServer ((leg, m) ∷ log) n)
    (if b then m ∷ of_leg (leg_at InServer n) log else of_leg (leg_at InServer n) log))
    (sym (same_bool leg InServer n))
    (by (is_of InServer leg && nat_eq n leg.number) (marks n log))
  where
    by : (b : Bool)
        → Alike (items_on in_items InServer log n) (of_leg (leg_at InServer n) log)
        → Alike (items_if b (in_items m) ++ items_on in_items InServer log n)
        (if b then m ∷ of_leg (leg_at InServer n) log else of_leg (leg_at InServer n) log)
    by true h =
        one_alike m (items_on in_items InServer log n) (of_leg (leg_at InServer n) log) h
    by false h = h
