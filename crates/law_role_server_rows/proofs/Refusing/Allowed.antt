-- what each allowed step of a role keeps, its moves keep, together with all that came and was put
use Rattle.law_order.proofs.Vocabulary.{ℕ, List, [], ◌∷◌, Some, None, Ok, Err, IsTrue, Option, Result}
use Rattle.law_moves.proofs.Vocabulary.{Cookie, Named, Leg, Count, GiveRefused, Rules, Acts, Row, Message, Pdu, Packet, Move, Up, HeadCame, PduCame, PacketCame, Puts, IsDrawn, Marks, Pings, MayMove, OnLeg, Passage, is_in_use, moved, taken_by, put_by, EndMove, Moves, Gives, Takes, Closes, Recycles, EndPassage, MayEndMove, AreAllowedAtEnd, end_moved, all_end_moved, end_now_at, given_by, with_first}
use Rattle.law_moves.proofs.Lemmas.{Fact, RowKeeps, PutKeeps, ActsKeep}

-- a packet comes on a leg that is in use, and a leg is lost behind which only marks stand
pub record MayKeep {S : Type 0} (rules : Rules S) (P : Fact S) : Type 0 where
  pub up : (s : S) (leg : Leg) (cookie : Cookie) (came put : List OnLeg) → P s came put
      → P (rules.up s leg cookie) came put
  pub head : (s : S) (leg : Leg) (text : List ℕ) (came put : List OnLeg) → P s came put
      → P (rules.head s leg text).0 came put
  pub pdu : (s : S) (leg : Leg) (count : Count) (bytes : List ℕ) (came put : List OnLeg)
      → P s came put → RowKeeps P (leg, Pdu bytes) came put (rules.pdu s leg count bytes)
  pub packet : (s : S) (leg : Leg) (count : Count) (named : Named) (came put : List OnLeg)
      → IsTrue (is_in_use rules s leg) → P s came put
      → RowKeeps P (leg, Packet named) came put (rules.packet s leg count named)
  pub put : (s : S) (leg : Leg) (came put : List OnLeg) → P s came put
      → PutKeeps P leg came put (rules.put s leg)
  pub drawn : (s : S) (leg : Leg) (came put : List OnLeg) → P s came put
      → P (rules.drawn s leg) came put
  pub mark : (s : S) (leg : Leg) (came put : List OnLeg) → IsTrue (rules.only_marks s leg)
      → P s came put → P (rules.mark s leg) came put
  pub ping : (s : S) (leg : Leg) (came put : List OnLeg) → P s came put
      → P (rules.ping s leg) came put

module _ {S : Type 0} (rules : Rules S) (P : Fact S) (keeps : MayKeep rules P) (acts : Acts S)
    (calls : ActsKeep acts P) where
  abbrev pub HoldsAt : Passage S → Type 0
  HoldsAt p = P p.role p.came p.put

  by_row : (p : Passage S) (leg : Leg) (m : Message) (row : S × Row)
      → RowKeeps P (leg, m) p.came p.put row → HoldsAt (taken_by p leg m row)
  by_row p leg m (s, Ok taken) h = h
  by_row p leg m (s, Err refused) h = h

  by_put : (p : Passage S) (leg : Leg) (pick : Option (S × Message)) → HoldsAt p
      → PutKeeps P leg p.came p.put pick → HoldsAt (put_by p leg pick)
  by_put p leg None h goes = h
  by_put p leg (Some one) h goes = goes

  move_keeps : (p : Passage S) (move : Move) → MayMove rules p.role move → HoldsAt p
      → HoldsAt (moved rules p move)
  move_keeps p (Up leg cookie) may h = keeps.up p.role leg cookie p.came p.put h
  move_keeps p (HeadCame leg text) may h = keeps.head p.role leg text p.came p.put h
  move_keeps p (PduCame leg count bytes) may h =
      by_row p leg (Pdu bytes) (rules.pdu p.role leg count bytes)
      (keeps.pdu p.role leg count bytes p.came p.put h)
  move_keeps p (PacketCame leg count named) may h =
      by_row p leg (Packet named) (rules.packet p.role leg count named)
      (keeps.packet p.role leg count named p.came p.put may h)
  move_keeps p (Puts leg) may h =
      by_put p leg (rules.put p.role leg) h (keeps.put p.role leg p.came p.put h)
  move_keeps p (IsDrawn leg) may h = keeps.drawn p.role leg p.came p.put h
  move_keeps p (Marks leg) may h = keeps.mark p.role leg p.came p.put may.1 h
  move_keeps p (Pings leg) may h = keeps.ping p.role leg p.came p.put h

  by_given : (p : EndPassage S) (bytes : List ℕ) (x : S × Result (Unit {0}) GiveRefused)
      → P x.0 p.passage.came p.passage.put → HoldsAt (given_by p bytes x).passage
  by_given p bytes (s, Ok accepted) h = h
  by_given p bytes (s, Err refused) h = h

  by_first : (p : EndPassage S) (pdus : List (List ℕ)) → HoldsAt p.passage
      → HoldsAt (with_first p pdus).passage
  by_first p [] h = h
  by_first p (pdu ∷ pdus) h = h

  end_move_keeps : (p : EndPassage S) (move : EndMove) → MayEndMove rules p.passage.role move
      → HoldsAt p.passage → HoldsAt (end_moved rules acts p move).passage
  end_move_keeps p (Moves move) may h = move_keeps p.passage move may h
  end_move_keeps p (Gives bytes) may h =
      by_given p bytes (acts.give p.passage.role bytes)
      (calls.give p.passage.role bytes p.passage.came p.passage.put h)
  end_move_keeps p Takes may h =
      by_first (end_now_at p (acts.take p.passage.role))
      (acts.line p.passage.role).current.pdus
      (calls.take p.passage.role p.passage.came p.passage.put h)
  end_move_keeps p Closes may h = calls.close p.passage.role p.passage.came p.passage.put h
  end_move_keeps p Recycles may h = calls.recycle p.passage.role p.passage.came p.passage.put h

  pub allowed_keep : (p : EndPassage S) (moves : List EndMove)
      → AreAllowedAtEnd rules acts p moves → HoldsAt p.passage
      → HoldsAt (all_end_moved rules acts p moves).passage
  allowed_keep p [] may h = h
  allowed_keep p (move ∷ moves) may h =
      allowed_keep (end_moved rules acts p move) moves may.1 (end_move_keeps p move may.0 h)
