-- what each step of a role keeps beside a fact that holds at each of its moments, where legs come up
-- as they may
use Rattle.law_order.proofs.Vocabulary.{ℕ, List, [], ◌∷◌, Some, None, Ok, Err, Option}
use Rattle.law_moves.proofs.Vocabulary.{Cookie, Named, Leg, Count, Rules, Row, Message, Pdu, Packet, OnLeg, Move, Up, HeadCame, PduCame, PacketCame, Puts, IsDrawn, Marks, Pings, Passage, moved, all_moved, taken_by, put_by}
use Rattle.law_moves.proofs.Lemmas.{Fact, PutKeeps, RowKeeps, Rise}
use Rattle.law_moves.proofs.PacketKinds.Pays.{MayRise}

pub record KeepBeside {S : Type 0} (rules : Rules S) (MayUp : S → Leg → Type 0) (A B : Fact S)
    : Type 0 where
  pub up : (s : S) (leg : Leg) (cookie : Cookie) (came put : List OnLeg) → MayUp s leg
      → A s came put → B s came put → B (rules.up s leg cookie) came put
  pub head : (s : S) (leg : Leg) (text : List ℕ) (came put : List OnLeg) → A s came put
      → B s came put → B (rules.head s leg text).0 came put
  pub pdu : (s : S) (leg : Leg) (count : Count) (bytes : List ℕ) (came put : List OnLeg)
      → A s came put → B s came put
      → RowKeeps B (leg, Pdu bytes) came put (rules.pdu s leg count bytes)
  pub packet : (s : S) (leg : Leg) (count : Count) (named : Named) (came put : List OnLeg)
      → A s came put → B s came put
      → RowKeeps B (leg, Packet named) came put (rules.packet s leg count named)
  pub put : (s : S) (leg : Leg) (came put : List OnLeg) → A s came put → B s came put
      → PutKeeps B leg came put (rules.put s leg)
  pub drawn : (s : S) (leg : Leg) (came put : List OnLeg) → A s came put → B s came put
      → B (rules.drawn s leg) came put
  pub mark : (s : S) (leg : Leg) (came put : List OnLeg) → A s came put → B s came put
      → B (rules.mark s leg) came put
  pub ping : (s : S) (leg : Leg) (came put : List OnLeg) → A s came put → B s came put
      → B (rules.ping s leg) came put

module _ {S : Type 0} (rules : Rules S) (MayUp : S → Leg → Type 0) (A B : Fact S)
    (keeps : KeepBeside rules MayUp A B)
    (always : (p : Passage S) (move : Move) → A p.role p.came p.put
    → A (moved rules p move).role (moved rules p move).came (moved rules p move).put) where
  abbrev HoldsAt : Passage S → Type 0
  HoldsAt p = B p.role p.came p.put

  by_row : (p : Passage S) (leg : Leg) (m : Message) (row : S × Row)
      → RowKeeps B (leg, m) p.came p.put row → HoldsAt (taken_by p leg m row)
  by_row p leg m (s, Ok taken) h = h
  by_row p leg m (s, Err refused) h = h

  by_put : (p : Passage S) (leg : Leg) (pick : Option (S × Message)) → HoldsAt p
      → PutKeeps B leg p.came p.put pick → HoldsAt (put_by p leg pick)
  by_put p leg None h goes = h
  by_put p leg (Some one) h goes = goes

  move_keeps : (p : Passage S) (move : Move) → MayRise rules MayUp p.role move
      → A p.role p.came p.put → HoldsAt p → HoldsAt (moved rules p move)
  move_keeps p (Up leg cookie) may a h = keeps.up p.role leg cookie p.came p.put may a h
  move_keeps p (HeadCame leg text) may a h = keeps.head p.role leg text p.came p.put a h
  move_keeps p (PduCame leg count bytes) may a h =
      by_row p leg (Pdu bytes) (rules.pdu p.role leg count bytes)
      (keeps.pdu p.role leg count bytes p.came p.put a h)
  move_keeps p (PacketCame leg count named) may a h =
      by_row p leg (Packet named) (rules.packet p.role leg count named)
      (keeps.packet p.role leg count named p.came p.put a h)
  move_keeps p (Puts leg) may a h =
      by_put p leg (rules.put p.role leg) h (keeps.put p.role leg p.came p.put a h)
  move_keeps p (IsDrawn leg) may a h = keeps.drawn p.role leg p.came p.put a h
  move_keeps p (Marks leg) may a h = keeps.mark p.role leg p.came p.put a h
  move_keeps p (Pings leg) may a h = keeps.ping p.role leg p.came p.put a h

  pub moves_keep_beside : (p : Passage S) (moves : List Move) → Rise rules MayUp p moves
      → A p.role p.came p.put → B p.role p.came p.put
      → (let q = all_moved rules p moves in B q.role q.came q.put)
  moves_keep_beside p [] may a h = h
  moves_keep_beside p (move ∷ moves) may a h =
      moves_keep_beside (moved rules p move) moves may.1 (always p move a)
      (move_keeps p move may.0 a h)
