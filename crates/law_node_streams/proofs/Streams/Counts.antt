-- packets that a node counts as they come
use Rattle.law_order.proofs.Vocabulary.{◌≡◌, ◌+◌, ℕ, List, [], ◌∷◌, ◌++◌, cond, Ok, Err, arith, sym, ap, ◌∙◌, subst, Result}
use Rattle.rh_shell.specs.declared.answers.Count.TheVariants as count
use Rattle.law_moves.proofs.Vocabulary.{Named, Cause, Leg, Count, one_more, Rules, Acts, Message, Pdu, Packet, Move, EndMove, OnLeg, Passage, EndPassage, moved, all_moved, end_moved, all_end_moved, of_leg, Tells, AreCounted, AreCountedAtEnd, is_any, packets}
use Rattle.law_moves.proofs.Lemmas.{count_append, leg_more}
use Rattle.law_node_history.proofs.Lemmas.{same_itself}

-- the count is of the packets that came on the leg
abbrev pub TellsOn : {S : Type 0} → Passage S → Leg → Count → Type 0
TellsOn p leg c = Tells c (packets (of_leg leg p.came))

-- what a row says of the packets that came, where it took one
abbrev pub ToldBy : List Message → Result Count Cause → Type 0
ToldBy came (Ok next) = Tells next (packets came)
ToldBy came (Err why) = Unit {0}

tells_more : (c : Count) (n : ℕ) → Tells c n → Tells (one_more c) (n + 1)
tells_more count.Zero n h = omega (arith, h)
tells_more count.One n h = omega (arith, h)
tells_more count.More n h = omega (arith, h)

-- a message more on the leg
packets_more : (leg : Leg) (log : List OnLeg) (message : Message)
    → packets (of_leg leg (log ++ (leg, message) ∷ []))
    ≡ packets (of_leg leg log) + packets (message ∷ [])
packets_more leg log message =
    ap packets (leg_more leg log (leg, message)
    ∙ ap (λ t. of_leg leg log ++ cond {A = List Message} t (message ∷ []) []) (same_itself leg))
    ∙ count_append is_any (of_leg leg log) (message ∷ [])

pub tells_packet : (c : Count) (leg : Leg) (log : List OnLeg) (named : Named)
    → Tells c (packets (of_leg leg log))
    → Tells (one_more c) (packets (of_leg leg (log ++ (leg, Packet named) ∷ [])))
tells_packet c leg log named h =
    subst (Tells (one_more c)) (sym (packets_more leg log (Packet named)))
    (tells_more c (packets (of_leg leg log)) h)

-- a PDU is no packet
pub tells_pdu : (c : Count) (leg : Leg) (log : List OnLeg) (pdu : List ℕ)
    → Tells c (packets (of_leg leg log))
    → Tells c (packets (of_leg leg (log ++ (leg, Pdu pdu) ∷ [])))
tells_pdu c leg log pdu h =
    let same : packets (of_leg leg log) ≡ packets (of_leg leg log) + 0 = omega arith in
    subst (Tells c) (sym (packets_more leg log (Pdu pdu))) (subst (Tells c) same h)

module _ {S : Type 0} (rules : Rules S) where
  pub counted_append : (p : Passage S) (ms ns : List Move) → AreCounted rules p ms
      → AreCounted rules (all_moved rules p ms) ns → AreCounted rules p (ms ++ ns)
  counted_append p [] ns a b = b
  counted_append p (m ∷ ms) ns a b = (a.0, counted_append (moved rules p m) ms ns a.1 b)

  pub end_counted_append : (acts : Acts S) (p : EndPassage S) (ms ns : List EndMove)
      → AreCountedAtEnd rules acts p ms
      → AreCountedAtEnd rules acts (all_end_moved rules acts p ms) ns
      → AreCountedAtEnd rules acts p (ms ++ ns)
  end_counted_append acts p [] ns a b = b
  end_counted_append acts p (m ∷ ms) ns a b =
      (a.0, end_counted_append acts (end_moved rules acts p m) ms ns a.1 b)
