-- what each step of an end keeps where it may be made, its moves keep, together with all that came
-- and was put
use Rattle.law_order.proofs.Vocabulary.{ℕ, List, [], ◌∷◌, Some, None, Ok, Err, Option, Result}
use Rattle.law_moves.proofs.Vocabulary.{Cookie, Named, Leg, Count, GiveRefused, Rules, Acts, Row, Message, Pdu, Packet, OnLeg, Move, Up, HeadCame, PduCame, PacketCame, Puts, IsDrawn, Marks, Pings, Passage, moved, taken_by, put_by, EndMove, Moves, Gives, Takes, Closes, Recycles, EndPassage, end_moved, all_end_moved, end_now_at, given_by, with_first}
use Rattle.law_moves.proofs.Lemmas.{Fact, RowKeeps, PutKeeps}

-- a move that may be made where the role is so
abbrev pub May : Type 0 → Type 1
May S = S → EndMove → Type 0

-- each of these moves may be made where it is made
abbrev pub AllMay : {S : Type 0} → Rules S → Acts S → May S → EndPassage S → List EndMove → Type 0
AllMay rules acts IsLet p [] = Unit {0}
AllMay rules acts IsLet p (move ∷ moves) =
    IsLet p.passage.role move × AllMay rules acts IsLet (end_moved rules acts p move) moves

pub record LetKeep {S : Type 0} (rules : Rules S) (acts : Acts S) (IsLet : May S) (P : Fact S)
    : Type 0 where
  pub up : (s : S) (leg : Leg) (cookie : Cookie) (came put : List OnLeg)
      → IsLet s (Moves (Up leg cookie)) → P s came put → P (rules.up s leg cookie) came put
  pub head : (s : S) (leg : Leg) (text : List ℕ) (came put : List OnLeg) → P s came put
      → P (rules.head s leg text).0 came put
  pub pdu : (s : S) (leg : Leg) (count : Count) (bytes : List ℕ) (came put : List OnLeg)
      → P s came put → RowKeeps P (leg, Pdu bytes) came put (rules.pdu s leg count bytes)
  pub packet : (s : S) (leg : Leg) (count : Count) (named : Named) (came put : List OnLeg)
      → IsLet s (Moves (PacketCame leg count named)) → P s came put
      → RowKeeps P (leg, Packet named) came put (rules.packet s leg count named)
  pub put : (s : S) (leg : Leg) (came put : List OnLeg) → P s came put
      → PutKeeps P leg came put (rules.put s leg)
  pub drawn : (s : S) (leg : Leg) (came put : List OnLeg) → P s came put
      → P (rules.drawn s leg) came put
  pub mark : (s : S) (leg : Leg) (came put : List OnLeg) → P s came put
      → P (rules.mark s leg) came put
  pub ping : (s : S) (leg : Leg) (came put : List OnLeg) → P s came put
      → P (rules.ping s leg) came put
  pub give : (s : S) (bytes : List ℕ) (came put : List OnLeg) → P s came put
      → P (acts.give s bytes).0 came put
  pub take : (s : S) (came put : List OnLeg) → P s came put → P (acts.take s) came put
  pub close : (s : S) (came put : List OnLeg) → P s came put → P (acts.close s) came put
  pub recycle : (s : S) (came put : List OnLeg) → IsLet s Recycles → P s came put
      → P (acts.recycle s).0 came put

module _ {S : Type 0} (rules : Rules S) (acts : Acts S) (IsLet : May S) (P : Fact S)
    (keeps : LetKeep rules acts IsLet P) where
  abbrev HoldsAt : Passage S → Type 0
  HoldsAt p = P p.role p.came p.put

  by_row : (p : Passage S) (leg : Leg) (m : Message) (row : S × Row)
      → RowKeeps P (leg, m) p.came p.put row → HoldsAt (taken_by p leg m row)
  by_row p leg m (s, Ok taken) h = h
  by_row p leg m (s, Err refused) h = h

  by_put : (p : Passage S) (leg : Leg) (pick : Option (S × Message)) → HoldsAt p
      → PutKeeps P leg p.came p.put pick → HoldsAt (put_by p leg pick)
  by_put p leg None h goes = h
  by_put p leg (Some one) h goes = goes

  by_given : (p : EndPassage S) (bytes : List ℕ) (x : S × Result (Unit {0}) GiveRefused)
      → P x.0 p.passage.came p.passage.put → HoldsAt (given_by p bytes x).passage
  by_given p bytes (s, Ok accepted) h = h
  by_given p bytes (s, Err refused) h = h

  by_first : (p : EndPassage S) (pdus : List (List ℕ)) → HoldsAt p.passage
      → HoldsAt (with_first p pdus).passage
  by_first p [] h = h
  by_first p (pdu ∷ pdus) h = h

  move_keeps : (p : Passage S) (move : Move) → IsLet p.role (Moves move) → HoldsAt p
      → HoldsAt (moved rules p move)
  move_keeps p (Up leg cookie) is h = keeps.up p.role leg cookie p.came p.put is h
  move_keeps p (HeadCame leg text) is h = keeps.head p.role leg text p.came p.put h
  move_keeps p (PduCame leg count bytes) is h =
      by_row p leg (Pdu bytes) (rules.pdu p.role leg count bytes)
      (keeps.pdu p.role leg count bytes p.came p.put h)
  move_keeps p (PacketCame leg count named) is h =
      by_row p leg (Packet named) (rules.packet p.role leg count named)
      (keeps.packet p.role leg count named p.came p.put is h)
  move_keeps p (Puts leg) is h =
      by_put p leg (rules.put p.role leg) h (keeps.put p.role leg p.came p.put h)
  move_keeps p (IsDrawn leg) is h = keeps.drawn p.role leg p.came p.put h
  move_keeps p (Marks leg) is h = keeps.mark p.role leg p.came p.put h
  move_keeps p (Pings leg) is h = keeps.ping p.role leg p.came p.put h

  end_move_keeps : (p : EndPassage S) (move : EndMove) → IsLet p.passage.role move
      → HoldsAt p.passage → HoldsAt (end_moved rules acts p move).passage
  end_move_keeps p (Moves move) is h = move_keeps p.passage move is h
  end_move_keeps p (Gives bytes) is h =
      by_given p bytes (acts.give p.passage.role bytes)
      (keeps.give p.passage.role bytes p.passage.came p.passage.put h)
  end_move_keeps p Takes is h =
      by_first (end_now_at p (acts.take p.passage.role))
      (acts.line p.passage.role).current.pdus
      (keeps.take p.passage.role p.passage.came p.passage.put h)
  end_move_keeps p Closes is h = keeps.close p.passage.role p.passage.came p.passage.put h
  end_move_keeps p Recycles is h = keeps.recycle p.passage.role p.passage.came p.passage.put is h

  pub let_moves_keep : (p : EndPassage S) (moves : List EndMove)
      → AllMay rules acts IsLet p moves → HoldsAt p.passage
      → HoldsAt (all_end_moved rules acts p moves).passage
  let_moves_keep p [] all h = h
  let_moves_keep p (move ∷ moves) all h =
      let_moves_keep (end_moved rules acts p move) moves all.1 (end_move_keeps p move all.0 h)
