-- what each step of a role keeps that is as is known, its moves keep, together with all that came
-- and was put
use Rattle.law_order.proofs.Vocabulary.{ℕ, List, [], ◌∷◌, Some, None, Ok, Err, Option, Result}
use Rattle.law_moves.proofs.Vocabulary.{Cookie, Named, Leg, Count, GiveRefused, Rules, Acts, Row, Message, Pdu, Packet, Move, Up, HeadCame, PduCame, PacketCame, Puts, IsDrawn, Marks, Pings, AreAllowed, Passage, moved, all_moved, taken_by, put_by, EndMove, Moves, Gives, Takes, Closes, Recycles, AreAllowedAtEnd, EndPassage, end_moved, all_end_moved, end_now_at, given_by, with_first, OnLeg}
use Rattle.law_moves.proofs.Lemmas.{Fact, PutKeeps, RowKeeps}

-- each step keeps the fact
pub record StepsKeep {S : Type 0} (rules : Rules S) (Known P : Fact S) : Type 0 where
  pub up : (s : S) (leg : Leg) (cookie : Cookie) (came put : List OnLeg) → Known s came put
      → P s came put → P (rules.up s leg cookie) came put
  pub head : (s : S) (leg : Leg) (text : List ℕ) (came put : List OnLeg) → Known s came put
      → P s came put → P (rules.head s leg text).0 came put
  pub pdu : (s : S) (leg : Leg) (count : Count) (bytes : List ℕ) (came put : List OnLeg)
      → Known s came put → P s came put
      → RowKeeps P (leg, Pdu bytes) came put (rules.pdu s leg count bytes)
  pub packet : (s : S) (leg : Leg) (count : Count) (named : Named) (came put : List OnLeg)
      → Known s came put → P s came put
      → RowKeeps P (leg, Packet named) came put (rules.packet s leg count named)
  pub put : (s : S) (leg : Leg) (came put : List OnLeg) → Known s came put → P s came put
      → PutKeeps P leg came put (rules.put s leg)
  pub drawn : (s : S) (leg : Leg) (came put : List OnLeg) → Known s came put → P s came put
      → P (rules.drawn s leg) came put
  pub mark : (s : S) (leg : Leg) (came put : List OnLeg) → Known s came put → P s came put
      → P (rules.mark s leg) came put
  pub ping : (s : S) (leg : Leg) (came put : List OnLeg) → Known s came put → P s came put
      → P (rules.ping s leg) came put

pub record ActsKeep {S : Type 0} (acts : Acts S) (Known P : Fact S) : Type 0 where
  pub give : (s : S) (bytes : List ℕ) (came put : List OnLeg) → Known s came put → P s came put
      → P (acts.give s bytes).0 came put
  pub take : (s : S) (came put : List OnLeg) → Known s came put → P s came put
      → P (acts.take s) came put
  pub close : (s : S) (came put : List OnLeg) → Known s came put → P s came put
      → P (acts.close s) came put
  pub recycle : (s : S) (came put : List OnLeg) → Known s came put → P s came put
      → P (acts.recycle s).0 came put

module _ {S : Type 0} (rules : Rules S) (Known P : Fact S) (keeps : StepsKeep rules Known P)
  where
    abbrev pub HoldsAt : Passage S → Type 0
    HoldsAt p = P p.role p.came p.put

    abbrev pub KnownAt : Passage S → Type 0
    KnownAt p = Known p.role p.came p.put

    by_row : (p : Passage S) (leg : Leg) (m : Message) (row : S × Row)
        → RowKeeps P (leg, m) p.came p.put row → HoldsAt (taken_by p leg m row)
    by_row p leg m (s, Ok taken) h = h
    by_row p leg m (s, Err refused) h = h

    by_put : (p : Passage S) (leg : Leg) (pick : Option (S × Message)) → HoldsAt p
        → PutKeeps P leg p.came p.put pick → HoldsAt (put_by p leg pick)
    by_put p leg None h goes = h
    by_put p leg (Some one) h goes = goes

    move_keeps : (p : Passage S) (move : Move) → KnownAt p → HoldsAt p
        → HoldsAt (moved rules p move)
    move_keeps p (Up leg cookie) k h = keeps.up p.role leg cookie p.came p.put k h
    move_keeps p (HeadCame leg text) k h = keeps.head p.role leg text p.came p.put k h
    move_keeps p (PduCame leg count bytes) k h =
        by_row p leg (Pdu bytes) (rules.pdu p.role leg count bytes)
        (keeps.pdu p.role leg count bytes p.came p.put k h)
    move_keeps p (PacketCame leg count named) k h =
        by_row p leg (Packet named) (rules.packet p.role leg count named)
        (keeps.packet p.role leg count named p.came p.put k h)
    move_keeps p (Puts leg) k h =
        by_put p leg (rules.put p.role leg) h (keeps.put p.role leg p.came p.put k h)
    move_keeps p (IsDrawn leg) k h = keeps.drawn p.role leg p.came p.put k h
    move_keeps p (Marks leg) k h = keeps.mark p.role leg p.came p.put k h
    move_keeps p (Pings leg) k h = keeps.ping p.role leg p.came p.put k h

    -- what is known is so behind all fronts of the moves
    pub moves_keep : (p : Passage S) (moves : List Move) → AreAllowed rules p moves
        → ((front : List Move) → AreAllowed rules p front → KnownAt (all_moved rules p front))
        → HoldsAt p → HoldsAt (all_moved rules p moves)
    moves_keep p [] allowed known h = h
    moves_keep p (move ∷ moves) allowed known h =
        moves_keep (moved rules p move) moves allowed.1
        (λ front may. known (move ∷ front) (allowed.0, may))
        (move_keeps p move (known [] tt) h)

    -- ---- at an end

    module _ (acts : Acts S) (calls : ActsKeep acts Known P) where
      by_given : (p : EndPassage S) (bytes : List ℕ) (x : S × Result (Unit {0}) GiveRefused)
          → P x.0 p.passage.came p.passage.put → HoldsAt (given_by p bytes x).passage
      by_given p bytes (s, Ok accepted) h = h
      by_given p bytes (s, Err refused) h = h

      by_first : (p : EndPassage S) (pdus : List (List ℕ)) → HoldsAt p.passage
          → HoldsAt (with_first p pdus).passage
      by_first p [] h = h
      by_first p (pdu ∷ pdus) h = h

      end_move_keeps : (p : EndPassage S) (move : EndMove) → KnownAt p.passage
          → HoldsAt p.passage → HoldsAt (end_moved rules acts p move).passage
      end_move_keeps p (Moves move) k h = move_keeps p.passage move k h
      end_move_keeps p (Gives bytes) k h =
          by_given p bytes (acts.give p.passage.role bytes)
          (calls.give p.passage.role bytes p.passage.came p.passage.put k h)
      end_move_keeps p Takes k h =
          by_first (end_now_at p (acts.take p.passage.role))
          (acts.line p.passage.role).current.pdus
          (calls.take p.passage.role p.passage.came p.passage.put k h)
      end_move_keeps p Closes k h =
          calls.close p.passage.role p.passage.came p.passage.put k h
      end_move_keeps p Recycles k h =
          calls.recycle p.passage.role p.passage.came p.passage.put k h

      pub end_moves_keep : (p : EndPassage S) (moves : List EndMove)
          → AreAllowedAtEnd rules acts p moves
          → ((front : List EndMove) → AreAllowedAtEnd rules acts p front
          → KnownAt (all_end_moved rules acts p front).passage)
          → HoldsAt p.passage → HoldsAt (all_end_moved rules acts p moves).passage
      end_moves_keep p [] allowed known h = h
      end_moves_keep p (move ∷ moves) allowed known h =
          end_moves_keep (end_moved rules acts p move) moves allowed.1
          (λ front may. known (move ∷ front) (allowed.0, may))
          (end_move_keeps p move (known [] tt) h)
