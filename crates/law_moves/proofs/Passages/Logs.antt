-- what each step of a role keeps, its moves keep, together with all that came and was put
use Rattle.law_order.proofs.Vocabulary.{ℕ, List, [], ◌∷◌, ◌++◌, Some, None, Ok, Err, IfSome, Option, Result}
use Rattle.law_moves.proofs.Vocabulary.{Cookie, Named, Leg, Count, GiveRefused, Rules, Acts, Row, Message, Pdu, Packet, OnLeg, Move, Up, HeadCame, PduCame, PacketCame, Puts, IsDrawn, Marks, Pings, Passage, moved, all_moved, taken_by, put_by, EndMove, Moves, Gives, Takes, Closes, Recycles, EndPassage, end_moved, all_end_moved, end_now_at, given_by, with_first}

-- a fact of a role, of what came, and of what was put
abbrev pub Fact : Type 0 → Type 1
Fact S = S → List OnLeg → List OnLeg → Type 0

-- behind a row, which takes a message or refuses it
abbrev pub RowKeeps : {S : Type 0} → Fact S → OnLeg → List OnLeg → List OnLeg → S × Row → Type 0
RowKeeps P one came put (s, Ok taken) = P s (came ++ one ∷ []) put
RowKeeps P one came put (s, Err refused) = P s came put

-- behind a put
abbrev pub PutKeeps : {S : Type 0} → Fact S → Leg → List OnLeg → List OnLeg → Option (S × Message)
    → Type 0
PutKeeps {S} P leg came put pick =
    IfSome pick (λ (one : S × Message). P one.0 came (put ++ (leg, one.1) ∷ []))

-- each step of a role keeps the fact
pub record StepsKeep {S : Type 0} (rules : Rules S) (P : Fact S) : Type 0 where
  pub up : (s : S) (leg : Leg) (cookie : Cookie) (came put : List OnLeg) → P s came put
      → P (rules.up s leg cookie) came put
  pub head : (s : S) (leg : Leg) (text : List ℕ) (came put : List OnLeg) → P s came put
      → P (rules.head s leg text).0 came put
  pub pdu : (s : S) (leg : Leg) (count : Count) (bytes : List ℕ) (came put : List OnLeg)
      → P s came put → RowKeeps P (leg, Pdu bytes) came put (rules.pdu s leg count bytes)
  pub packet : (s : S) (leg : Leg) (count : Count) (named : Named) (came put : List OnLeg)
      → P s came put → RowKeeps P (leg, Packet named) came put (rules.packet s leg count named)
  pub put : (s : S) (leg : Leg) (came put : List OnLeg) → P s came put
      → PutKeeps P leg came put (rules.put s leg)
  pub drawn : (s : S) (leg : Leg) (came put : List OnLeg) → P s came put
      → P (rules.drawn s leg) came put
  pub mark : (s : S) (leg : Leg) (came put : List OnLeg) → P s came put
      → P (rules.mark s leg) came put
  pub ping : (s : S) (leg : Leg) (came put : List OnLeg) → P s came put
      → P (rules.ping s leg) came put

pub record ActsKeep {S : Type 0} (acts : Acts S) (P : Fact S) : Type 0 where
  pub give : (s : S) (bytes : List ℕ) (came put : List OnLeg) → P s came put
      → P (acts.give s bytes).0 came put
  pub take : (s : S) (came put : List OnLeg) → P s came put → P (acts.take s) came put
  pub close : (s : S) (came put : List OnLeg) → P s came put → P (acts.close s) came put
  pub recycle : (s : S) (came put : List OnLeg) → P s came put
      → P (acts.recycle s).0 came put

module _ {S : Type 0} (rules : Rules S) (P : Fact S) (keeps : StepsKeep rules P) where
  abbrev pub HoldsAt : Passage S → Type 0
  HoldsAt p = P p.role p.came p.put

  by_row : (p : Passage S) (leg : Leg) (m : Message) (row : S × Row)
      → RowKeeps P (leg, m) p.came p.put row → HoldsAt (taken_by p leg m row)
  by_row p leg m (s, Ok taken) h = h
  by_row p leg m (s, Err refused) h = h

  by_put : (p : Passage S) (leg : Leg) (pick : Option (S × Message)) → HoldsAt p
      → PutKeeps P leg p.came p.put pick → HoldsAt (put_by p leg pick)
  by_put p leg None h goes = h
  by_put p leg (Some one) h goes = goes

  move_keeps : (p : Passage S) (move : Move) → HoldsAt p → HoldsAt (moved rules p move)
  move_keeps p (Up leg cookie) h = keeps.up p.role leg cookie p.came p.put h
  move_keeps p (HeadCame leg text) h = keeps.head p.role leg text p.came p.put h
  move_keeps p (PduCame leg count bytes) h =
      by_row p leg (Pdu bytes) (rules.pdu p.role leg count bytes)
      (keeps.pdu p.role leg count bytes p.came p.put h)
  move_keeps p (PacketCame leg count named) h =
      by_row p leg (Packet named) (rules.packet p.role leg count named)
      (keeps.packet p.role leg count named p.came p.put h)
  move_keeps p (Puts leg) h =
      by_put p leg (rules.put p.role leg) h (keeps.put p.role leg p.came p.put h)
  move_keeps p (IsDrawn leg) h = keeps.drawn p.role leg p.came p.put h
  move_keeps p (Marks leg) h = keeps.mark p.role leg p.came p.put h
  move_keeps p (Pings leg) h = keeps.ping p.role leg p.came p.put h

  pub moves_keep : (p : Passage S) (moves : List Move) → HoldsAt p
      → HoldsAt (all_moved rules p moves)
  moves_keep p [] h = h
  moves_keep p (move ∷ moves) h = moves_keep (moved rules p move) moves (move_keeps p move h)

  -- ---- at an end

  module _ (acts : Acts S) (calls : ActsKeep acts P) where
    by_given : (p : EndPassage S) (bytes : List ℕ) (x : S × Result (Unit {0}) GiveRefused)
        → P x.0 p.passage.came p.passage.put → HoldsAt (given_by p bytes x).passage
    by_given p bytes (s, Ok accepted) h = h
    by_given p bytes (s, Err refused) h = h

    by_first : (p : EndPassage S) (pdus : List (List ℕ)) → HoldsAt p.passage
        → HoldsAt (with_first p pdus).passage
    by_first p [] h = h
    by_first p (pdu ∷ pdus) h = h

    end_move_keeps : (p : EndPassage S) (move : EndMove) → HoldsAt p.passage
        → HoldsAt (end_moved rules acts p move).passage
    end_move_keeps p (Moves move) h = move_keeps p.passage move h
    end_move_keeps p (Gives bytes) h =
        by_given p bytes (acts.give p.passage.role bytes)
        (calls.give p.passage.role bytes p.passage.came p.passage.put h)
    end_move_keeps p Takes h =
        by_first (end_now_at p (acts.take p.passage.role))
        (acts.line p.passage.role).current.pdus
        (calls.take p.passage.role p.passage.came p.passage.put h)
    end_move_keeps p Closes h = calls.close p.passage.role p.passage.came p.passage.put h
    end_move_keeps p Recycles h = calls.recycle p.passage.role p.passage.came p.passage.put h

    pub end_moves_keep : (p : EndPassage S) (moves : List EndMove) → HoldsAt p.passage
        → HoldsAt (all_end_moved rules acts p moves).passage
    end_moves_keep p [] h = h
    end_moves_keep p (move ∷ moves) h =
        end_moves_keep (end_moved rules acts p move) moves (end_move_keeps p move h)
