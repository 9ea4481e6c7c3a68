-- what each step of an end keeps, its moves keep, where each leg that comes up may do so
use Rattle.law_order.proofs.Vocabulary.{◌≡◌, ℕ, List, [], ◌∷◌, Some, None, Ok, Err, inl, inr, refl, IsTrue, Option, Result}
use Rattle.law_moves.proofs.Vocabulary.{Cookie, Named, Leg, Count, GiveRefused, Rules, Acts, Row, Message, Pdu, Packet, Move, Up, HeadCame, PduCame, PacketCame, Puts, IsDrawn, Marks, Pings, Passage, MayMove, moved, taken_by, put_by, EndMove, Moves, Gives, Takes, Closes, Recycles, EndPassage, AreAllowedAtEnd, MayEndMove, end_moved, all_end_moved, end_now_at, given_by, with_first, HasComeUp}
use Rattle.law_moves.proofs.Lemmas.{Fact, RowKeeps, PutKeeps}

-- each step keeps the fact, where legs come up only with cookies of which something holds
pub record StepsKeep {S : Type 0} (rules : Rules S) (acts : Acts S)
    (Comes : Leg → Cookie → Type 0) (P : Fact S) : Type 0 where
  pub up : (s : S) (leg : Leg) (cookie : Cookie) → IsTrue (rules.may_up s leg)
      → Comes leg cookie → (came put : _) → P s came put → P (rules.up s leg cookie) came put
  pub head : (s : S) (leg : Leg) (text : List ℕ) (came put : _) → P s came put
      → P (rules.head s leg text).0 came put
  pub pdu : (s : S) (leg : Leg) (count : Count) (bytes : List ℕ) (came put : _)
      → P s came put → RowKeeps P (leg, Pdu bytes) came put (rules.pdu s leg count bytes)
  pub packet : (s : S) (leg : Leg) (count : Count) (named : Named) (came put : _)
      → P s came put → RowKeeps P (leg, Packet named) came put (rules.packet s leg count named)
  pub put : (s : S) (leg : Leg) (came put : _) → P s came put
      → PutKeeps P leg came put (rules.put s leg)
  pub drawn : (s : S) (leg : Leg) (came put : _) → P s came put
      → P (rules.drawn s leg) came put
  pub mark : (s : S) (leg : Leg) (came put : _) → P s came put → P (rules.mark s leg) came put
  pub ping : (s : S) (leg : Leg) (came put : _) → P s came put → P (rules.ping s leg) came put
  pub give : (s : S) (bytes : List ℕ) (came put : _) → P s came put
      → P (acts.give s bytes).0 came put
  pub take : (s : S) (came put : _) → P s came put → P (acts.take s) came put
  pub close : (s : S) (came put : _) → P s came put → P (acts.close s) came put
  pub recycle : (s : S) (came put : _) → P s came put → P (acts.recycle s).0 came put

module _ {S : Type 0} (rules : Rules S) (acts : Acts S) (Comes : Leg → Cookie → Type 0)
    (P : Fact S) (keeps : StepsKeep rules acts Comes P) where
  abbrev HoldsAt : Passage S → Type 0
  HoldsAt p = P p.role p.came p.put

  by_row : (p : Passage S) (leg : Leg) (m : Message) (row : S × Row)
      → RowKeeps P (leg, m) p.came p.put row → HoldsAt (taken_by p leg m row)
  by_row p leg m (s, Ok taken) h = h
  by_row p leg m (s, Err refused) h = h

  by_put : (p : Passage S) (leg : Leg) (pick : Option (S × Message))
      → HoldsAt p → PutKeeps P leg p.came p.put pick → HoldsAt (put_by p leg pick)
  by_put p leg None h goes = h
  by_put p leg (Some one) h goes = goes

  abbrev MayCome : EndMove → Type 0
  MayCome move = (leg : Leg) (cookie : Cookie) → move ≡ Moves (Up leg cookie) → Comes leg cookie

  move_keeps : (p : Passage S) (move : Move) → MayMove rules p.role move
      → MayCome (Moves move) → HoldsAt p → HoldsAt (moved rules p move)
  move_keeps p (Up leg cookie) may comes h =
      keeps.up p.role leg cookie may.1 (comes leg cookie refl) p.came p.put h
  move_keeps p (HeadCame leg text) may comes h = keeps.head p.role leg text p.came p.put h
  move_keeps p (PduCame leg count bytes) may comes h =
      by_row p leg (Pdu bytes) (rules.pdu p.role leg count bytes)
      (keeps.pdu p.role leg count bytes p.came p.put h)
  move_keeps p (PacketCame leg count named) may comes h =
      by_row p leg (Packet named) (rules.packet p.role leg count named)
      (keeps.packet p.role leg count named p.came p.put h)
  move_keeps p (Puts leg) may comes h =
      by_put p leg (rules.put p.role leg) h (keeps.put p.role leg p.came p.put h)
  move_keeps p (IsDrawn leg) may comes h = keeps.drawn p.role leg p.came p.put h
  move_keeps p (Marks leg) may comes h = keeps.mark p.role leg p.came p.put h
  move_keeps p (Pings leg) may comes h = keeps.ping p.role leg p.came p.put h

  by_given : (p : EndPassage S) (bytes : List ℕ)
      (x : S × Result (Unit {0}) GiveRefused) → P x.0 p.passage.came p.passage.put
      → HoldsAt (given_by p bytes x).passage
  by_given p bytes (s, Ok accepted) h = h
  by_given p bytes (s, Err refused) h = h

  by_first : (p : EndPassage S) (pdus : List (List ℕ)) → HoldsAt p.passage
      → HoldsAt (with_first p pdus).passage
  by_first p [] h = h
  by_first p (pdu ∷ pdus) h = h

  end_move_keeps : (p : EndPassage S) (move : EndMove)
      → MayEndMove rules p.passage.role move → MayCome move → HoldsAt p.passage
      → HoldsAt (end_moved rules acts p move).passage
  end_move_keeps p (Moves move) may comes h = move_keeps p.passage move may comes h
  end_move_keeps p (Gives bytes) may comes h =
      by_given p bytes (acts.give p.passage.role bytes)
      (keeps.give p.passage.role bytes p.passage.came p.passage.put h)
  end_move_keeps p Takes may comes h =
      by_first (end_now_at p (acts.take p.passage.role))
      (acts.line p.passage.role).current.pdus
      (keeps.take p.passage.role p.passage.came p.passage.put h)
  end_move_keeps p Closes may comes h =
      keeps.close p.passage.role p.passage.came p.passage.put h
  end_move_keeps p Recycles may comes h =
      keeps.recycle p.passage.role p.passage.came p.passage.put h

  pub end_moves_keep : (p : EndPassage S) (moves : List EndMove)
      → AreAllowedAtEnd rules acts p moves
      → ((leg : Leg) (cookie : Cookie) → HasComeUp moves leg cookie → Comes leg cookie)
      → HoldsAt p.passage → HoldsAt (all_end_moved rules acts p moves).passage
  end_moves_keep p [] allowed comes h = h
  end_moves_keep p (move ∷ moves) allowed comes h =
      end_moves_keep (end_moved rules acts p move) moves allowed.1
      (λ leg cookie later. comes leg cookie (inr later))
      (end_move_keeps p move allowed.0 (λ leg cookie is. comes leg cookie (inl is)) h)
