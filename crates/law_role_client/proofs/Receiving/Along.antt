-- what each step of an end keeps where it may be made, its moves keep, by the moves before
use Rattle.law_order.proofs.Vocabulary.{ℕ, List, [], ◌∷◌, ◌++◌, Some, None, Ok, Err, Option, Result}
use Rattle.law_moves.proofs.Vocabulary.{Cookie, Named, Leg, Count, GiveRefused, Rules, Acts, Row, Message, Pdu, Packet, OnLeg, Move, Up, HeadCame, PduCame, PacketCame, Puts, IsDrawn, Marks, Pings, Passage, moved, taken_by, put_by, EndMove, Moves, Gives, Takes, Closes, Recycles, EndPassage, end_moved, all_end_moved, end_now_at, given_by, with_first}
use Rattle.law_moves.proofs.Lemmas.{Fact, RowKeeps, PutKeeps, ActsKeep}

-- a step that may be made behind these moves
abbrev pub May : Type 0 → Type 1
May S = List EndMove → S → EndMove → Type 0

-- a fact of these moves, and of an end behind them
abbrev pub Past : Type 0 → Type 1
Past S = List EndMove → Fact S

-- each of these moves may be made, the first behind those before
abbrev pub AllMay : {S : Type 0} → Rules S → Acts S → May S → List EndMove → EndPassage S
    → List EndMove → Type 0
AllMay rules acts IsLet before p [] = Unit {0}
AllMay rules acts IsLet before p (move ∷ moves) =
    IsLet before p.passage.role move
    × AllMay rules acts IsLet (before ++ move ∷ []) (end_moved rules acts p move) moves

-- no leg comes up
abbrev pub IsNoUp : EndMove → Type 0
IsNoUp (Moves (Up leg cookie)) = ⊥
IsNoUp move = Unit {0}

-- each step that may be made keeps the fact, and so does the move itself, once it was made
pub record LetStepsKeep {S : Type 0} (rules : Rules S) (IsLet : May S) (P : Past S)
    : Type 0 where
  pub up : (before : List EndMove) (s : S) (leg : Leg) (cookie : Cookie) (came put : List OnLeg)
      → IsLet before s (Moves (Up leg cookie)) → P before s came put
      → P (before ++ Moves (Up leg cookie) ∷ []) (rules.up s leg cookie) came put
  pub past : (before : List EndMove) (move : EndMove) (s : S) (came put : List OnLeg)
      → IsNoUp move → P before s came put → P (before ++ move ∷ []) s came put
  pub head : (before : List EndMove) (s : S) (leg : Leg) (text : List ℕ) (came put : List OnLeg)
      → P before s came put → P before (rules.head s leg text).0 came put
  pub pdu : (before : List EndMove) (s : S) (leg : Leg) (count : Count) (bytes : List ℕ)
      (came put : List OnLeg) → IsLet before s (Moves (PduCame leg count bytes))
      → P before s came put
      → RowKeeps (P before) (leg, Pdu bytes) came put (rules.pdu s leg count bytes)
  pub packet : (before : List EndMove) (s : S) (leg : Leg) (count : Count) (named : Named)
      (came put : List OnLeg) → P before s came put
      → RowKeeps (P before) (leg, Packet named) came put (rules.packet s leg count named)
  pub put : (before : List EndMove) (s : S) (leg : Leg) (came put : List OnLeg)
      → P before s came put → PutKeeps (P before) leg came put (rules.put s leg)
  pub drawn : (before : List EndMove) (s : S) (leg : Leg) (came put : List OnLeg)
      → P before s came put → P before (rules.drawn s leg) came put
  pub mark : (before : List EndMove) (s : S) (leg : Leg) (came put : List OnLeg)
      → P before s came put → P before (rules.mark s leg) came put
  pub ping : (before : List EndMove) (s : S) (leg : Leg) (came put : List OnLeg)
      → P before s came put → P before (rules.ping s leg) came put

module _ {S : Type 0} (rules : Rules S) (acts : Acts S) (IsLet : May S) (P : Past S)
    (keeps : LetStepsKeep rules IsLet P)
    (calls : (before : List EndMove) → ActsKeep acts (P before)) where
  abbrev HoldsAt : List EndMove → Passage S → Type 0
  HoldsAt before p = P before p.role p.came p.put

  module _ (before : List EndMove) where
    by_row : (p : Passage S) (leg : Leg) (m : Message) (row : S × Row)
        → RowKeeps (P before) (leg, m) p.came p.put row
        → HoldsAt before (taken_by p leg m row)
    by_row p leg m (s, Ok taken) h = h
    by_row p leg m (s, Err refused) h = h

    by_put : (p : Passage S) (leg : Leg) (pick : Option (S × Message)) → HoldsAt before p
        → PutKeeps (P before) leg p.came p.put pick → HoldsAt before (put_by p leg pick)
    by_put p leg None h goes = h
    by_put p leg (Some one) h goes = goes

    by_given : (p : EndPassage S) (bytes : List ℕ) (x : S × Result (Unit {0}) GiveRefused)
        → P before x.0 p.passage.came p.passage.put
        → HoldsAt before (given_by p bytes x).passage
    by_given p bytes (s, Ok accepted) h = h
    by_given p bytes (s, Err refused) h = h

    by_first : (p : EndPassage S) (pdus : List (List ℕ)) → HoldsAt before p.passage
        → HoldsAt before (with_first p pdus).passage
    by_first p [] h = h
    by_first p (pdu ∷ pdus) h = h

    behind : (move : EndMove) (p : Passage S) → IsNoUp move → HoldsAt before p
        → HoldsAt (before ++ move ∷ []) p
    behind move p is h = keeps.past before move p.role p.came p.put is h

    move_keeps : (p : Passage S) (move : Move) → IsLet before p.role (Moves move)
        → HoldsAt before p → HoldsAt (before ++ Moves move ∷ []) (moved rules p move)
    move_keeps p (Up leg cookie) is h = keeps.up before p.role leg cookie p.came p.put is h
    move_keeps p (HeadCame leg text) is h =
        behind (Moves (HeadCame leg text)) (moved rules p (HeadCame leg text)) tt
        (keeps.head before p.role leg text p.came p.put h)
    move_keeps p (PduCame leg count bytes) is h =
        behind (Moves (PduCame leg count bytes)) (moved rules p (PduCame leg count bytes)) tt
        (by_row p leg (Pdu bytes) (rules.pdu p.role leg count bytes)
        (keeps.pdu before p.role leg count bytes p.came p.put is h))
    move_keeps p (PacketCame leg count named) is h =
        behind (Moves (PacketCame leg count named)) (moved rules p (PacketCame leg count named))
        tt
        (by_row p leg (Packet named) (rules.packet p.role leg count named)
        (keeps.packet before p.role leg count named p.came p.put h))
    move_keeps p (Puts leg) is h =
        behind (Moves (Puts leg)) (moved rules p (Puts leg)) tt
        (by_put p leg (rules.put p.role leg) h (keeps.put before p.role leg p.came p.put h))
    move_keeps p (IsDrawn leg) is h =
        behind (Moves (IsDrawn leg)) (moved rules p (IsDrawn leg)) tt
        (keeps.drawn before p.role leg p.came p.put h)
    move_keeps p (Marks leg) is h =
        behind (Moves (Marks leg)) (moved rules p (Marks leg)) tt
        (keeps.mark before p.role leg p.came p.put h)
    move_keeps p (Pings leg) is h =
        behind (Moves (Pings leg)) (moved rules p (Pings leg)) tt
        (keeps.ping before p.role leg p.came p.put h)

    end_move_keeps : (p : EndPassage S) (move : EndMove) → IsLet before p.passage.role move
        → HoldsAt before p.passage
        → HoldsAt (before ++ move ∷ []) (end_moved rules acts p move).passage
    end_move_keeps p (Moves move) is h = move_keeps p.passage move is h
    end_move_keeps p (Gives bytes) is h =
        behind (Gives bytes) (end_moved rules acts p (Gives bytes)).passage tt
        (by_given p bytes (acts.give p.passage.role bytes)
        ((calls before).give p.passage.role bytes p.passage.came p.passage.put h))
    end_move_keeps p Takes is h =
        behind Takes (end_moved rules acts p Takes).passage tt
        (by_first (end_now_at p (acts.take p.passage.role))
        (acts.line p.passage.role).current.pdus
        ((calls before).take p.passage.role p.passage.came p.passage.put h))
    end_move_keeps p Closes is h =
        behind Closes (end_moved rules acts p Closes).passage tt
        ((calls before).close p.passage.role p.passage.came p.passage.put h)
    end_move_keeps p Recycles is h =
        behind Recycles (end_moved rules acts p Recycles).passage tt
        ((calls before).recycle p.passage.role p.passage.came p.passage.put h)

  -- it holds of some moves before
  pub let_moves_keep : (before : List EndMove) (p : EndPassage S) (moves : List EndMove)
      → AllMay rules acts IsLet before p moves → HoldsAt before p.passage
      → (past : List EndMove) × HoldsAt past (all_end_moved rules acts p moves).passage
  let_moves_keep before p [] all h = (before, h)
  let_moves_keep before p (move ∷ moves) all h =
      let_moves_keep (before ++ move ∷ []) (end_moved rules acts p move) moves all.1
      (end_move_keeps before p move all.0 h)
