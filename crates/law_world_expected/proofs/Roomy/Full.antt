-- what finds room for what comes next finds no leg full
use Rattle.law_order.proofs.Vocabulary.{◌≡◌, inl, inr, List, Ok, Err, refl, subst, Option}
use Rattle.rh_shell.specs.declared.answers.Refused.TheVariants as refused
use Rattle.law_moves.proofs.Vocabulary.{Pipe, Leg, Message, Text, Pdu, Packet, Row, Rules, Passage, all_read_of}
use Rattle.law_peers_moments.specs.Expecting.{IsAhead}
use Rattle.law_world_expected.specs.Amiss.{AmissNext, NextIsAmiss, RefusesBy}
use Rattle.law_world_expected.specs.Roomy.{FindsRoom, NextFindsRoom, PdusFindRoom}

module _ {S : Type 0} (rules : Rules S) (p : Passage S) (leg : Leg) (pipe : Option Pipe)
    (put : List Message) (full : Leg) (pdus : PdusFindRoom rules)
    (packets : NextFindsRoom rules p leg (all_read_of put)) where
  refuses_none : (next : NextIsAmiss rules p leg (all_read_of put) (refused.Full full))
      → (message : Message) → next.message ≡ message → ⊥
  refuses_none next (Text bytes) e =
      subst (RefusesBy rules p.role leg next.count (refused.Full full)) e next.refuses
  refuses_none next (Pdu bytes) e =
      subst FindsRoom
      (subst (RefusesBy rules p.role leg next.count (refused.Full full)) e next.refuses)
      (pdus p.role leg next.count bytes)
  refuses_none next (Packet named) e =
      subst FindsRoom
      (subst (RefusesBy rules p.role leg next.count (refused.Full full)) e next.refuses)
      (packets next.count named next.in_use next.was_up next.counts
      (subst (IsAhead p leg (all_read_of put)) e next.ahead))

  pub never_full : AmissNext rules p leg pipe put (refused.Full full) → ⊥
  never_full (inl next) = refuses_none next next.message refl
  never_full (inr pinged) = let bad = pinged.0 in absurd cc

-- a row that refuses nothing for a full leg finds none
pub finds_room : (row : Row) → ((full : Leg) → row ≡ Err (refused.Full full) → ⊥) → FindsRoom row
finds_room (Ok taken) none = tt
finds_room (Err refused.Unexpected) none = tt
finds_room (Err (refused.Cookie expected got)) none = tt
finds_room (Err (refused.Window window)) none = tt
finds_room (Err (refused.OutOfRange command value)) none = tt
finds_room (Err (refused.Full full)) none = none full refl
