-- what each step of a role keeps, its moves keep, together with what came and was put on one leg
use Rattle.law_order.proofs.Vocabulary.{◌≡◌, ℕ, Bool, true, false, if◌then◌else◌, List, [], ◌∷◌, ◌++◌, Some, None, Ok, Err, sym, ap, subst, IfSome, Option, Result, append-nil}
use Rattle.law_moves.proofs.Vocabulary.{Cookie, Named, Leg, Count, GiveRefused, Rules, Acts, Row, Message, Pdu, Packet, same_leg, Move, Up, HeadCame, PduCame, PacketCame, Puts, IsDrawn, Marks, Pings, Passage, AreAllowed, moved, all_moved, taken_by, put_by, EndMove, Moves, Gives, Takes, Closes, Recycles, EndPassage, AreAllowedAtEnd, end_moved, all_end_moved, end_now_at, given_by, with_first, of_leg}
use Rattle.law_moves.proofs.Lemmas.{leg_more as one_more}
use Rattle.law_world_windows.proofs.Legs.{on}

-- a fact of a role, of what came on the leg, and of what was put there
abbrev pub Fact : Type 0 → Type 1
Fact S = S → List Message → List Message → Type 0

-- behind a row, which takes a message that came on some leg or refuses it
abbrev pub RowKeeps : {S : Type 0} → Fact S → Leg → Leg → Message → List Message → List Message
    → S × Row → Type 0
RowKeeps P leg other m came put (s, Ok taken) = P s (came ++ on leg other m) put
RowKeeps P leg other m came put (s, Err refused) = P s came put

-- behind a put
abbrev pub PutKeeps : {S : Type 0} → Fact S → Leg → Leg → List Message → List Message
    → Option (S × Message) → Type 0
PutKeeps {S} P leg other came put pick =
    IfSome pick (λ (one : S × Message). P one.0 came (put ++ on leg other one.1))

-- behind a row on the leg itself, and behind a put there
abbrev pub RowHere : {S : Type 0} → Fact S → Message → List Message → List Message → S × Row
    → Type 0
RowHere P m came put (s, Ok taken) = P s (came ++ m ∷ []) put
RowHere P m came put (s, Err refused) = P s came put

abbrev pub PutHere : {S : Type 0} → Fact S → List Message → List Message → Option (S × Message)
    → Type 0
PutHere {S} P came put pick =
    IfSome pick (λ (one : S × Message). P one.0 came (put ++ one.1 ∷ []))

module _ {S : Type 0} (P : Fact S) (leg other : Leg) (came put : List Message) where
  on_is : (b : Bool) (m : Message) → same_leg other leg ≡ b
      → on leg other m ≡ (if b then m ∷ [] else [])
  on_is b m e = ap (λ (t : Bool). if t then m ∷ [] else []) e

  pub row_here : (m : Message) (x : S × Row) → same_leg other leg ≡ true
      → RowHere P m came put x → RowKeeps P leg other m came put x
  row_here m (s, Ok taken) e h =
      subst (λ (more : List Message). P s (came ++ more) put) (sym (on_is true m e)) h
  row_here m (s, Err refused) e h = h

  pub put_here : (pick : Option (S × Message)) → same_leg other leg ≡ true
      → PutHere P came put pick → PutKeeps P leg other came put pick
  put_here None e h = tt
  put_here (Some one) e h =
      subst (λ (more : List Message). P one.0 came (put ++ more)) (sym (on_is true one.1 e)) h

  -- on another leg nothing came or was put here
  abbrev pub PutThere : Option (S × Message) → Type 0
  PutThere pick = IfSome pick (λ (one : S × Message). P one.0 came put)

  pub put_there : (pick : Option (S × Message)) → same_leg other leg ≡ false → PutThere pick
      → PutKeeps P leg other came put pick
  put_there None e h = tt
  put_there (Some one) e h =
      subst (λ (more : List Message). P one.0 came (put ++ more)) (sym (on_is false one.1 e))
      (subst (λ (all : List Message). P one.0 came all) (sym (append-nil put)) h)

-- each step of a role that is as is known keeps the fact
pub record StepsKeep {S : Type 0} (rules : Rules S) (leg : Leg) (Known : S → Type 0) (P : Fact S)
    : Type 0 where
  pub up : (s : S) (other : Leg) (cookie : Cookie) (came put : List Message) → Known s
      → P s came put → P (rules.up s other cookie) came put
  pub head : (s : S) (other : Leg) (text : List ℕ) (came put : List Message) → Known s
      → P s came put → P (rules.head s other text).0 came put
  pub pdu : (s : S) (other : Leg) (count : Count) (bytes : List ℕ) (came put : List Message)
      → Known s → P s came put
      → RowKeeps P leg other (Pdu bytes) came put (rules.pdu s other count bytes)
  pub packet : (s : S) (other : Leg) (count : Count) (named : Named) (came put : List Message)
      → Known s → P s came put
      → RowKeeps P leg other (Packet named) came put (rules.packet s other count named)
  pub put : (s : S) (other : Leg) (came put : List Message) → Known s → P s came put
      → PutKeeps P leg other came put (rules.put s other)
  pub drawn : (s : S) (other : Leg) (came put : List Message) → Known s → P s came put
      → P (rules.drawn s other) came put
  pub mark : (s : S) (other : Leg) (came put : List Message) → Known s → P s came put
      → P (rules.mark s other) came put
  pub ping : (s : S) (other : Leg) (came put : List Message) → Known s → P s came put
      → P (rules.ping s other) came put

pub record ActsKeep {S : Type 0} (acts : Acts S) (Known : S → Type 0) (P : Fact S) : Type 0 where
  pub give : (s : S) (bytes : List ℕ) (came put : List Message) → Known s → P s came put
      → P (acts.give s bytes).0 came put
  pub take : (s : S) (came put : List Message) → Known s → P s came put → P (acts.take s) came put
  pub close : (s : S) (came put : List Message) → Known s → P s came put
      → P (acts.close s) came put
  pub recycle : (s : S) (came put : List Message) → Known s → P s came put
      → P (acts.recycle s).0 came put

module _ {S : Type 0} (rules : Rules S) (leg : Leg) (Known : S → Type 0) (P : Fact S)
    (keeps : StepsKeep rules leg Known P) where
  abbrev pub HoldsAt : Passage S → Type 0
  HoldsAt p = P p.role (of_leg leg p.came) (of_leg leg p.put)

  by_row : (p : Passage S) (other : Leg) (m : Message) (row : S × Row)
      → RowKeeps P leg other m (of_leg leg p.came) (of_leg leg p.put) row
      → HoldsAt (taken_by p other m row)
  by_row p other m (s, Ok taken) h =
      subst (λ (came : List Message). P s came (of_leg leg p.put))
      (sym (one_more leg p.came (other, m)))
      h
  by_row p other m (s, Err refused) h = h

  by_put : (p : Passage S) (other : Leg) (pick : Option (S × Message)) → HoldsAt p
      → PutKeeps P leg other (of_leg leg p.came) (of_leg leg p.put) pick
      → HoldsAt (put_by p other pick)
  by_put p other None h goes = h
  by_put p other (Some one) h goes =
      subst (λ (put : List Message). P one.0 (of_leg leg p.came) put)
      (sym (one_more leg p.put (other, one.1))) goes

  move_keeps : (p : Passage S) (move : Move) → Known p.role → HoldsAt p
      → HoldsAt (moved rules p move)
  move_keeps p (Up other cookie) known h = keeps.up p.role other cookie _ _ known h
  move_keeps p (HeadCame other text) known h = keeps.head p.role other text _ _ known h
  move_keeps p (PduCame other count bytes) known h =
      by_row p other (Pdu bytes) (rules.pdu p.role other count bytes)
      (keeps.pdu p.role other count bytes _ _ known h)
  move_keeps p (PacketCame other count named) known h =
      by_row p other (Packet named) (rules.packet p.role other count named)
      (keeps.packet p.role other count named _ _ known h)
  move_keeps p (Puts other) known h =
      by_put p other (rules.put p.role other) h (keeps.put p.role other _ _ known h)
  move_keeps p (IsDrawn other) known h = keeps.drawn p.role other _ _ known h
  move_keeps p (Marks other) known h = keeps.mark p.role other _ _ known h
  move_keeps p (Pings other) known h = keeps.ping p.role other _ _ known h

  -- what is known is so behind all fronts of the moves
  pub moves_keep : (p : Passage S) (moves : List Move) → AreAllowed rules p moves
      → ((front : List Move) → AreAllowed rules p front → Known (all_moved rules p front).role)
      → HoldsAt p → HoldsAt (all_moved rules p moves)
  moves_keep p [] allowed known h = h
  moves_keep p (move ∷ moves) allowed known h =
      moves_keep (moved rules p move) moves allowed.1
      (λ front may. known (move ∷ front) (allowed.0, may))
      (move_keeps p move (known [] tt) h)

  -- ---- at an end

  module _ (acts : Acts S) (calls : ActsKeep acts Known P) where
    by_given : (p : EndPassage S) (bytes : List ℕ) (x : S × Result (Unit {0}) GiveRefused)
        → P x.0 (of_leg leg p.passage.came) (of_leg leg p.passage.put)
        → HoldsAt (given_by p bytes x).passage
    by_given p bytes (s, Ok accepted) h = h
    by_given p bytes (s, Err refused) h = h

    by_first : (p : EndPassage S) (pdus : List (List ℕ)) → HoldsAt p.passage
        → HoldsAt (with_first p pdus).passage
    by_first p [] h = h
    by_first p (pdu ∷ pdus) h = h

    end_move_keeps : (p : EndPassage S) (move : EndMove) → Known p.passage.role
        → HoldsAt p.passage → HoldsAt (end_moved rules acts p move).passage
    end_move_keeps p (Moves move) known h = move_keeps p.passage move known h
    end_move_keeps p (Gives bytes) known h =
        by_given p bytes (acts.give p.passage.role bytes)
        (calls.give p.passage.role bytes _ _ known h)
    end_move_keeps p Takes known h =
        by_first (end_now_at p (acts.take p.passage.role))
        (acts.line p.passage.role).current.pdus (calls.take p.passage.role _ _ known h)
    end_move_keeps p Closes known h = calls.close p.passage.role _ _ known h
    end_move_keeps p Recycles known h = calls.recycle p.passage.role _ _ known h

    pub end_moves_keep : (p : EndPassage S) (moves : List EndMove)
        → AreAllowedAtEnd rules acts p moves
        → ((front : List EndMove) → AreAllowedAtEnd rules acts p front
        → Known (all_end_moved rules acts p front).passage.role)
        → HoldsAt p.passage → HoldsAt (all_end_moved rules acts p moves).passage
    end_moves_keep p [] allowed known h = h
    end_moves_keep p (move ∷ moves) allowed known h =
        end_moves_keep (end_moved rules acts p move) moves allowed.1
        (λ front may. known (move ∷ front) (allowed.0, may))
        (end_move_keeps p move (known [] tt) h)
