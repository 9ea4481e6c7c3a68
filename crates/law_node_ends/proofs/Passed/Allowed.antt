-- what each step of a role keeps while it works, its moves keep that are allowed; by what is known
-- behind all moves, where a leg is marked
use Rattle.law_order.proofs.Vocabulary.{◌≡◌, ℕ, List, [], ◌∷◌, true, not, Some, None, Ok, Err, and_parts, AllByRecursion, Option, Result}
use Rattle.law_moves.proofs.Vocabulary.{Cookie, Named, Leg, Count, GiveRefused, Rules, Acts, Row, Message, Pdu, Packet, AreAllowed, AreAllowedAtEnd, MayEndMove, MayMove, OnLeg, Move, Up, HeadCame, PduCame, PacketCame, Puts, IsDrawn, Marks, Pings, Passage, is_at_work, moved, all_moved, taken_by, put_by, EndMove, Moves, Gives, Takes, Closes, Recycles, EndPassage, end_moved, all_end_moved, end_now_at, given_by, with_first}
use Rattle.law_moves.proofs.Lemmas.{Fact, RowKeeps, PutKeeps, ActsKeep}

-- of each move it may be asked what kind it is
pub record StepsKeep {S : Type 0} (rules : Rules S) (Asks : Move → Type 0) (Known P : Fact S)
    : Type 0 where
  pub up : (s : S) (leg : Leg) (cookie : Cookie) (came put : List OnLeg)
      → is_at_work rules s ≡ true → P s came put → P (rules.up s leg cookie) came put
  pub head : (s : S) (leg : Leg) (text : List ℕ) (came put : List OnLeg)
      → is_at_work rules s ≡ true → Asks (HeadCame leg text) → P s came put
      → P (rules.head s leg text).0 came put
  pub pdu : (s : S) (leg : Leg) (count : Count) (bytes : List ℕ) (came put : List OnLeg)
      → is_at_work rules s ≡ true → P s came put
      → RowKeeps P (leg, Pdu bytes) came put (rules.pdu s leg count bytes)
  pub packet : (s : S) (leg : Leg) (count : Count) (named : Named) (came put : List OnLeg)
      → is_at_work rules s ≡ true → P s came put
      → RowKeeps P (leg, Packet named) came put (rules.packet s leg count named)
  pub put : (s : S) (leg : Leg) (came put : List OnLeg) → is_at_work rules s ≡ true
      → P s came put → PutKeeps P leg came put (rules.put s leg)
  pub mark : (s : S) (leg : Leg) (came put : List OnLeg) → is_at_work rules s ≡ true
      → rules.only_marks s leg ≡ true → Asks (Marks leg) → Known s came put → P s came put
      → P (rules.mark s leg) came put
  pub drawn : (s : S) (leg : Leg) (came put : List OnLeg) → P s came put
      → P (rules.drawn s leg) came put
  pub ping : (s : S) (leg : Leg) (came put : List OnLeg) → P s came put
      → P (rules.ping s leg) came put

-- a fact of the role alone
abbrev pub of_role : {S : Type 0} → (S → Type 0) → Fact S
of_role P s came put = P s

pub role_row : {S : Type 0} (P : S → Type 0) (one : OnLeg) (came put : List OnLeg) (x : S × Row)
    → P x.0 → RowKeeps (of_role P) one came put x
role_row P one came put (s, Ok taken) h = h
role_row P one came put (s, Err refused) h = h

module _ {S : Type 0} (rules : Rules S) (Asks : Move → Type 0) (Known P : Fact S)
    (keeps : StepsKeep rules Asks Known P) where
  abbrev IsAt : Fact S → Passage S → Type 0
  IsAt Q p = Q p.role p.came p.put

  by_row : (p : Passage S) (leg : Leg) (m : Message) (row : S × Row)
      → RowKeeps P (leg, m) p.came p.put row → IsAt P (taken_by p leg m row)
  by_row p leg m (s, Ok taken) h = h
  by_row p leg m (s, Err refused) h = h

  by_put : (p : Passage S) (leg : Leg) (pick : Option (S × Message)) → IsAt P p
      → PutKeeps P leg p.came p.put pick → IsAt P (put_by p leg pick)
  by_put p leg None h goes = h
  by_put p leg (Some one) h goes = goes

  pub move_keeps : (p : Passage S) (move : Move) → MayMove rules p.role move
      → Asks move → IsAt Known p → IsAt P p → IsAt P (moved rules p move)
  move_keeps p (Up leg cookie) may asks known h =
      keeps.up p.role leg cookie p.came p.put may.0 h
  move_keeps p (HeadCame leg text) may asks known h =
      keeps.head p.role leg text p.came p.put
      (and_parts (is_at_work rules p.role) (not (rules.is_done p.role leg)) may).0 asks h
  move_keeps p (PduCame leg count bytes) may asks known h =
      by_row p leg (Pdu bytes) (rules.pdu p.role leg count bytes)
      (keeps.pdu p.role leg count bytes p.came p.put
      (and_parts (is_at_work rules p.role) (not (rules.is_done p.role leg)) may.0).0 h)
  move_keeps p (PacketCame leg count named) may asks known h =
      by_row p leg (Packet named) (rules.packet p.role leg count named)
      (keeps.packet p.role leg count named p.came p.put
      (and_parts (is_at_work rules p.role) (not (rules.is_done p.role leg)) may).0 h)
  move_keeps p (Puts leg) may asks known h =
      by_put p leg (rules.put p.role leg) h
      (keeps.put p.role leg p.came p.put
      (and_parts (is_at_work rules p.role) (not (rules.is_done p.role leg)) may).0 h)
  move_keeps p (IsDrawn leg) may asks known h = keeps.drawn p.role leg p.came p.put h
  move_keeps p (Marks leg) may asks known h =
      keeps.mark p.role leg p.came p.put may.0 may.1 asks known h
  move_keeps p (Pings leg) may asks known h = keeps.ping p.role leg p.came p.put h

  pub moves_keep : (p : Passage S) (moves : List Move) → AreAllowed rules p moves
      → AllByRecursion Asks moves
      → ((front : List Move) → AreAllowed rules p front → IsAt Known (all_moved rules p front))
      → IsAt P p → IsAt P (all_moved rules p moves)
  moves_keep p [] may asks known h = h
  moves_keep p (move ∷ moves) may asks known h =
      moves_keep (moved rules p move) moves may.1 asks.1
      (λ front allowed. known (move ∷ front) (may.0, allowed))
      (move_keeps p move may.0 asks.0 (known [] tt) h)

-- ---- at an end, whatever the moves are

module _ {S : Type 0} (rules : Rules S) (Known P : Fact S)
    (keeps : StepsKeep rules (λ move. Unit {0}) Known P) (acts : Acts S)
    (calls : ActsKeep acts P) where
  abbrev IsThere : Fact S → EndPassage S → Type 0
  IsThere Q p = Q p.passage.role p.passage.came p.passage.put

  by_given : (p : EndPassage S) (bytes : List ℕ) (x : S × Result (Unit {0}) GiveRefused)
      → P x.0 p.passage.came p.passage.put → IsThere P (given_by p bytes x)
  by_given p bytes (s, Ok accepted) h = h
  by_given p bytes (s, Err refused) h = h

  by_first : (p : EndPassage S) (pdus : List (List ℕ)) → IsThere P p
      → IsThere P (with_first p pdus)
  by_first p [] h = h
  by_first p (pdu ∷ pdus) h = h

  pub end_move_keeps : (p : EndPassage S) (move : EndMove)
      → MayEndMove rules p.passage.role move → IsThere Known p → IsThere P p
      → IsThere P (end_moved rules acts p move)
  end_move_keeps p (Moves move) may known h =
      move_keeps rules (λ move. Unit {0}) Known P keeps p.passage move may tt known h
  end_move_keeps p (Gives bytes) may known h =
      by_given p bytes (acts.give p.passage.role bytes)
      (calls.give p.passage.role bytes p.passage.came p.passage.put h)
  end_move_keeps p Takes may known h =
      by_first (end_now_at p (acts.take p.passage.role))
      (acts.line p.passage.role).current.pdus
      (calls.take p.passage.role p.passage.came p.passage.put h)
  end_move_keeps p Closes may known h =
      calls.close p.passage.role p.passage.came p.passage.put h
  end_move_keeps p Recycles may known h =
      calls.recycle p.passage.role p.passage.came p.passage.put h

  pub end_moves_keep : (p : EndPassage S) (moves : List EndMove)
      → AreAllowedAtEnd rules acts p moves
      → ((front : List EndMove) → AreAllowedAtEnd rules acts p front
      → IsThere Known (all_end_moved rules acts p front))
      → IsThere P p → IsThere P (all_end_moved rules acts p moves)
  end_moves_keep p [] may known h = h
  end_moves_keep p (move ∷ moves) may known h =
      end_moves_keep (end_moved rules acts p move) moves may.1
      (λ front allowed. known (move ∷ front) (may.0, allowed))
      (end_move_keeps p move may.0 (known [] tt) h)
