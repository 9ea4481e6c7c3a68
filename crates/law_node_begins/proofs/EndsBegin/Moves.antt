-- what each step of an end keeps, all its moves keep, together with what they put
use Rattle.law_order.proofs.Vocabulary.{◌≡◌, ℕ, Bool, true, false, ◌||◌, IsTrue, List, [], ◌∷◌, Some, None, Ok, Err, refl, sym, subst, IfSome, Option, Result}
use Rattle.law_moves.proofs.Vocabulary.{Cookie, Named, Leg, Count, GiveRefused, Rules, Acts, Row, Message, Pdu, Packet, Move, Up, HeadCame, PduCame, PacketCame, Puts, IsDrawn, Marks, Pings, Passage, MayMove, moved, taken_by, put_by, EndMove, Moves, Gives, Takes, Closes, Recycles, EndPassage, MayEndMove, AreAllowedAtEnd, end_moved, all_end_moved, end_now_at, given_by, with_first}
use Rattle.law_moves.proofs.Lemmas.{itself}
use Rattle.law_node_streams.specs.Streams.{is_end_up_on}
use Rattle.law_node_begins.proofs.EndsBegin.Stands.{Logs, grown, logs_of, logs_more}
use Rattle.law_node_begins.specs.EndsBegin.{came_up}

-- a role with what stands on its legs; a leg comes up where the role lets it, as the moves say
pub record StepsKeep {S : Type 0} (rules : Rules S) (acts : Acts S) (Holds : Logs → S → Type 0)
    (CameUp : Leg → Type 0) : Type 0 where
  pub up : (logs : Logs) (s : S) (leg : Leg) (cookie : Cookie) → IsTrue (rules.may_up s leg)
      → CameUp leg → Holds logs s → Holds logs (rules.up s leg cookie)
  pub head : (logs : Logs) (s : S) (leg : Leg) (text : List ℕ) → Holds logs s
      → Holds logs (rules.head s leg text).0
  pub pdu : (logs : Logs) (s : S) (leg : Leg) (count : Count) (bytes : List ℕ) → Holds logs s
      → Holds logs (rules.pdu s leg count bytes).0
  pub packet : (logs : Logs) (s : S) (leg : Leg) (count : Count) (named : Named) → Holds logs s
      → Holds logs (rules.packet s leg count named).0
  pub put : (logs : Logs) (s : S) (leg : Leg) → Holds logs s
      → IfSome (rules.put s leg) (λ (put : S × Message). Holds (grown leg put.1 logs) put.0)
  pub drawn : (logs : Logs) (s : S) (leg : Leg) → Holds logs s → Holds logs (rules.drawn s leg)
  pub mark : (logs : Logs) (s : S) (leg : Leg) → Holds logs s → Holds logs (rules.mark s leg)
  pub ping : (logs : Logs) (s : S) (leg : Leg) → Holds logs s → Holds logs (rules.ping s leg)
  pub give : (logs : Logs) (s : S) (bytes : List ℕ) → Holds logs s
      → Holds logs (acts.give s bytes).0
  pub take : (logs : Logs) (s : S) → Holds logs s → Holds logs (acts.take s)
  pub close : (logs : Logs) (s : S) → Holds logs s → Holds logs (acts.close s)
  pub recycle : (logs : Logs) (s : S) → Holds logs s → Holds logs (acts.recycle s).0

module _ {S : Type 0} (rules : Rules S) (acts : Acts S) (Holds : Logs → S → Type 0)
    (CameUp : Leg → Type 0) (keeps : StepsKeep rules acts Holds CameUp) where
  abbrev HoldsAt : Passage S → Type 0
  HoldsAt p = Holds (logs_of p.put) p.role

  by_row : (p : Passage S) (leg : Leg) (message : Message) (row : S × Row)
      → Holds (logs_of p.put) row.0 → HoldsAt (taken_by p leg message row)
  by_row p leg message (role, Ok taken) h = h
  by_row p leg message (role, Err refused) h = h

  by_put : (p : Passage S) (leg : Leg) (o : Option (S × Message))
      → IfSome o (λ (put : S × Message). Holds (grown leg put.1 (logs_of p.put)) put.0)
      → HoldsAt p → HoldsAt (put_by p leg o)
  by_put p leg None goes h = h
  by_put p leg (Some put) goes h =
      subst (λ logs. Holds logs put.0) (sym (logs_more p.put (leg, put.1))) goes

  by_given : (p : EndPassage S) (pdu : List ℕ) (x : S × Result (Unit {0}) GiveRefused)
      → Holds (logs_of p.passage.put) x.0 → HoldsAt (given_by p pdu x).passage
  by_given p pdu (role, Ok accepted) h = h
  by_given p pdu (role, Err refused) h = h

  by_first : (p : EndPassage S) (pdus : List (List ℕ)) → HoldsAt p.passage
      → HoldsAt (with_first p pdus).passage
  by_first p [] h = h
  by_first p (pdu ∷ pdus) h = h

  -- where a leg comes up, it did
  abbrev SaysUp : EndMove → Type 0
  SaysUp move = (leg : Leg) → is_end_up_on leg move ≡ true → CameUp leg

  move_keeps : (p : Passage S) (move : Move) → MayMove rules p.role move → SaysUp (Moves move)
      → HoldsAt p → HoldsAt (moved rules p move)
  move_keeps p (Up leg cookie) may says h =
      keeps.up (logs_of p.put) p.role leg cookie may.1 (says leg (itself leg)) h
  move_keeps p (HeadCame leg text) may says h = keeps.head (logs_of p.put) p.role leg text h
  move_keeps p (PduCame leg count bytes) may says h =
      by_row p leg (Pdu bytes) (rules.pdu p.role leg count bytes)
      (keeps.pdu (logs_of p.put) p.role leg count bytes h)
  move_keeps p (PacketCame leg count named) may says h =
      by_row p leg (Packet named) (rules.packet p.role leg count named)
      (keeps.packet (logs_of p.put) p.role leg count named h)
  move_keeps p (Puts leg) may says h =
      by_put p leg (rules.put p.role leg) (keeps.put (logs_of p.put) p.role leg h) h
  move_keeps p (IsDrawn leg) may says h = keeps.drawn (logs_of p.put) p.role leg h
  move_keeps p (Marks leg) may says h = keeps.mark (logs_of p.put) p.role leg h
  move_keeps p (Pings leg) may says h = keeps.ping (logs_of p.put) p.role leg h

  end_move_keeps : (p : EndPassage S) (move : EndMove) → MayEndMove rules p.passage.role move
      → SaysUp move → HoldsAt p.passage → HoldsAt (end_moved rules acts p move).passage
  end_move_keeps p (Moves move) may says h = move_keeps p.passage move may says h
  end_move_keeps p (Gives bytes) may says h =
      by_given p bytes (acts.give p.passage.role bytes)
      (keeps.give (logs_of p.passage.put) p.passage.role bytes h)
  end_move_keeps p Takes may says h =
      by_first (end_now_at p (acts.take p.passage.role))
      (acts.line p.passage.role).current.pdus
      (keeps.take (logs_of p.passage.put) p.passage.role h)
  end_move_keeps p Closes may says h = keeps.close (logs_of p.passage.put) p.passage.role h
  end_move_keeps p Recycles may says h = keeps.recycle (logs_of p.passage.put) p.passage.role h

  pub moves_keep : (p : EndPassage S) (moves : List EndMove)
      → AreAllowedAtEnd rules acts p moves
      → ((leg : Leg) → came_up leg moves ≡ true → CameUp leg) → HoldsAt p.passage
      → HoldsAt (all_end_moved rules acts p moves).passage
  moves_keep p [] allowed says h = h
  moves_keep p (move ∷ moves) allowed says h =
      moves_keep (end_moved rules acts p move) moves allowed.1
      (λ leg e. says leg (later (is_end_up_on leg move) (came_up leg moves) e))
      (end_move_keeps p move allowed.0
      (λ leg e. says leg (now (is_end_up_on leg move) (came_up leg moves) e)) h)
    where
      later : (a b : Bool) → b ≡ true → (a || b) ≡ true
      later true b e = refl
      later false b e = e

      now : (a b : Bool) → a ≡ true → (a || b) ≡ true
      now true b e = refl
      now false b e = absurd (cc)
