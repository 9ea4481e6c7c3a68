-- how a client's work is done
use Rattle.law_order.proofs.Vocabulary.{◌≡◌, ◌⊎◌, ℕ, ◌==◌, nat_eq, Bool, true, false, true≢false, not, ◌&&◌, ◌||◌, if◌then◌else◌, List, [], ◌∷◌, ◌++◌, inl, inr, arith, nat_tests, rules, refl, sym, ap, ◌∙◌, subst, Item, has_end}
use Rattle.law_moves.proofs.Vocabulary.{Named, EndA1, EndB2, ClientConfig, LegKind, ClientIn, ClientOut, Message, Text, Pdu, Packet, is_of, kind_number, is_ended, OnLeg, EndMove, is_at_work, of_leg, Has}
use Rattle.law_role_client.proofs.Vocabulary.{rules as client_rules, AreAllowedMoves, client_moved, up_items, up_mark, down_items, down_mark, log_of, InIsAt, OutIsAt}
use Rattle.law_role_client.proofs.GivesInOrder.{gives_in_order}
use Rattle.law_role_client.proofs.TakesInOrder.{takes_in_order}
use Rattle.law_role_client.proofs.Counted.InCounts.{replaces_ins}
use Rattle.law_role_client.proofs.Counted.OutCounts.{replaces_outs}
use Rattle.law_role_client_edges.specs.Ending.{EndsLast}
use Rattle.law_role_client_edges.proofs.Facts.{none_is}
use Rattle.law_role_client_edges.proofs.Steps.{known_behind}

-- ---- END that stands on a leg

same_on : (kind leg n number : ℕ)
    → (leg == kind && (number == n)) ≡ (kind == leg && nat_eq n number)
same_on kind leg n number = grind (arith, nat_tests)

-- of messages that are viewed so, by a packet that is END
module _ (view : Message → List Item) (end : Named)
    (is_end : (m : Message) (items : List Item) → has_end (view m ++ items) ≡ true
    → (m ≡ Packet end) ⊎ (has_end items ≡ true)) where
  one_end : (b : Bool) (m : Message) (items : List Item) (ms : List Message)
      → (has_end items ≡ true → Has end ms)
      → has_end ((if b then view m else []) ++ items) ≡ true
      → Has end (if b then m ∷ ms else ms)
  one_end false m items ms rest e = rest e
  one_end true m items ms rest e = by (is_end m items e)
    where
      by : (m ≡ Packet end) ⊎ (has_end items ≡ true) → Has end (m ∷ ms)
      by (inl is) = inl is
      by (inr more) = inr (rest more)

  end_on : (kind : LegKind) (n : ℕ) (log : List OnLeg) → has_end (log_of view kind log n) ≡ true
      → Has end (of_leg (record { kind = kind; number = n }) log)
  end_on kind n [] e = absurd (true≢false (sym e))
  end_on kind n (one ∷ log) e =
      subst (λ (b : Bool). Has end (if b
      then one.1 ∷ of_leg (record { kind = kind; number = n }) log
      else of_leg (record { kind = kind; number = n }) log))
      (sym (same_on (kind_number kind) (kind_number one.0.kind) n one.0.number))
      (one_end (is_of kind one.0 && nat_eq n one.0.number) one.1 (log_of view kind log n)
      (of_leg (record { kind = kind; number = n }) log) (end_on kind n log) e)

either_true : (a b : Bool) → a || b ≡ true → (a ≡ true) ⊎ (b ≡ true)
either_true true b e = inl refl
either_true false b e = inr e

abbrev is_end_a1 : Named → Bool
is_end_a1 EndA1 = true
is_end_a1 packet = false

abbrev is_end_b2 : Named → Bool
is_end_b2 EndB2 = true
is_end_b2 packet = false

up_end : (m : Named) (items : List Item)
    → has_end (up_mark m ++ items) ≡ (is_end_a1 m || has_end items)
up_end m items = search rules

down_end : (m : Named) (items : List Item)
    → has_end (down_mark m ++ items) ≡ (is_end_b2 m || has_end items)
down_end m items = search rules

a1_is : (m : Named) → is_end_a1 m ≡ true → m ≡ EndA1
a1_is m e = search rules

b2_is : (m : Named) → is_end_b2 m ≡ true → m ≡ EndB2
b2_is m e = search rules

ends_up : (m : Message) (items : List Item) → has_end (up_items m ++ items) ≡ true
    → (m ≡ Packet EndA1) ⊎ (has_end items ≡ true)
ends_up (Text bytes) items e = inr e
ends_up (Pdu pdu) items e = inr e
ends_up (Packet m) items e =
    by (either_true (is_end_a1 m) (has_end items) (sym (up_end m items) ∙ e))
  where
    by : (is_end_a1 m ≡ true) ⊎ (has_end items ≡ true)
        → (Packet m ≡ Packet EndA1) ⊎ (has_end items ≡ true)
    by (inl is) = inl (ap Packet (a1_is m is))
    by (inr more) = inr more

ends_down : (m : Message) (items : List Item) → has_end (down_items m ++ items) ≡ true
    → (m ≡ Packet EndB2) ⊎ (has_end items ≡ true)
ends_down (Text bytes) items e = inr e
ends_down (Pdu pdu) items e = inr e
ends_down (Packet m) items e =
    by (either_true (is_end_b2 m) (has_end items) (sym (down_end m items) ∙ e))
  where
    by : (is_end_b2 m ≡ true) ⊎ (has_end items ≡ true)
        → (Packet m ≡ Packet EndB2) ⊎ (has_end items ≡ true)
    by (inl is) = inl (ap Packet (b2_is m is))
    by (inr more) = inr more

-- ---- the law

not_at_work : (b : Bool) → not b ≡ false → b ≡ true
not_at_work true e = refl
not_at_work false e = absurd (true≢false e)

pub client_ends : (config : ClientConfig) (moves : List EndMove) → AreAllowedMoves config moves
    → is_at_work client_rules (client_moved config moves).passage.role ≡ false
    → EndsLast (client_moved config moves).passage
client_ends config moves allowed done =
    let p = (client_moved config moves).passage in
    let over = (known_behind config moves allowed).over
    (not_at_work (is_ended p.role.phase) done) in
    let none = none_is p.role.replacement over.0 in
    let ins = replaces_ins config moves allowed in
    let outs = replaces_outs config moves allowed in
    let in_at = subst (InIsAt p) none ins.at in
    record {
      put =
          end_on up_items EndA1 ends_up ClientIn p.role.writing.number p.put
          (sym (gives_in_order config moves).end_put ∙ over.2);
      came =
          end_on down_items EndB2 ends_down ClientOut p.role.current.number p.came
          (sym (takes_in_order config moves allowed).holds.ended ∙ over.1);
      replaced = none;
      outs = subst (OutIsAt p) none outs.at;
      in_answers = in_at.0;
      in_asks = in_at.1;
      in_number = ins.writing;
    }
