-- what each step of a role keeps where its legs come up as they may, its allowed moves keep
use Rattle.law_order.proofs.Vocabulary.{ℕ, List, [], ◌∷◌, Some, None, Ok, Err, IsTrue, Option}
use Rattle.law_moves.proofs.Vocabulary.{Cookie, Named, Leg, Count, Rules, Row, Message, Pdu, Packet, AreAllowed, HeadCame, IsDrawn, Marks, MayMove, Move, PacketCame, Passage, PduCame, Pings, Puts, Up, OnLeg, all_moved, moved, put_by, taken_by}
use Rattle.law_moves.proofs.Lemmas.{Fact, PutKeeps, RowKeeps}

pub record MayKeep {S : Type 0} (rules : Rules S) (P : Fact S) : Type 0 where
  pub up : (s : S) (leg : Leg) (cookie : Cookie) (came put : List OnLeg)
      → IsTrue (rules.may_up s leg) → P s came put → P (rules.up s leg cookie) came put
  pub head : (s : S) (leg : Leg) (text : List ℕ) (came put : List OnLeg) → P s came put
      → P (rules.head s leg text).0 came put
  pub pdu : (s : S) (leg : Leg) (count : Count) (bytes : List ℕ) (came put : List OnLeg)
      → P s came put → RowKeeps P (leg, Pdu bytes) came put (rules.pdu s leg count bytes)
  pub packet : (s : S) (leg : Leg) (count : Count) (named : Named) (came put : List OnLeg)
      → P s came put → RowKeeps P (leg, Packet named) came put (rules.packet s leg count named)
  pub put : (s : S) (leg : Leg) (came put : List OnLeg) → P s came put
      → PutKeeps P leg came put (rules.put s leg)
  pub drawn : (s : S) (leg : Leg) (came put : List OnLeg) → P s came put
      → P (rules.drawn s leg) came put
  pub mark : (s : S) (leg : Leg) (came put : List OnLeg) → P s came put
      → P (rules.mark s leg) came put
  pub ping : (s : S) (leg : Leg) (came put : List OnLeg) → P s came put
      → P (rules.ping s leg) came put

module _ {S : Type 0} (rules : Rules S) (P : Fact S) (keeps : MayKeep rules P) where
  abbrev pub HoldsAt : Passage S → Type 0
  HoldsAt p = P p.role p.came p.put

  by_row : (p : Passage S) (leg : Leg) (m : Message) (row : S × Row)
      → RowKeeps P (leg, m) p.came p.put row → HoldsAt (taken_by p leg m row)
  by_row p leg m (s, Ok taken) h = h
  by_row p leg m (s, Err refused) h = h

  by_put : (p : Passage S) (leg : Leg) (pick : Option (S × Message)) → HoldsAt p
      → PutKeeps P leg p.came p.put pick → HoldsAt (put_by p leg pick)
  by_put p leg None h goes = h
  by_put p leg (Some one) h goes = goes

  move_keeps : (p : Passage S) (move : Move) → MayMove rules p.role move → HoldsAt p
      → HoldsAt (moved rules p move)
  move_keeps p (Up leg cookie) may h = keeps.up p.role leg cookie p.came p.put may.1 h
  move_keeps p (HeadCame leg text) may h = keeps.head p.role leg text p.came p.put h
  move_keeps p (PduCame leg count bytes) may h =
      by_row p leg (Pdu bytes) (rules.pdu p.role leg count bytes)
      (keeps.pdu p.role leg count bytes p.came p.put h)
  move_keeps p (PacketCame leg count named) may h =
      by_row p leg (Packet named) (rules.packet p.role leg count named)
      (keeps.packet p.role leg count named p.came p.put h)
  move_keeps p (Puts leg) may h =
      by_put p leg (rules.put p.role leg) h (keeps.put p.role leg p.came p.put h)
  move_keeps p (IsDrawn leg) may h = keeps.drawn p.role leg p.came p.put h
  move_keeps p (Marks leg) may h = keeps.mark p.role leg p.came p.put h
  move_keeps p (Pings leg) may h = keeps.ping p.role leg p.came p.put h

  pub may_moves_keep : (p : Passage S) (moves : List Move) → AreAllowed rules p moves
      → HoldsAt p → HoldsAt (all_moved rules p moves)
  may_moves_keep p [] allowed h = h
  may_moves_keep p (move ∷ moves) allowed h =
      may_moves_keep (moved rules p move) moves allowed.1 (move_keeps p move allowed.0 h)
