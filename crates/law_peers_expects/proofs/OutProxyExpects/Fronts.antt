-- each front of what an end put is what it had put behind a front of its moves
use Rattle.law_order.proofs.Vocabulary.{◌≡◌, ◌⊎◌, ℕ, List, [], ◌∷◌, ◌++◌, Some, None, Ok, Err, inl, inr, refl, sym, ap, ◌∙◌, subst, append_assoc, append-nil, append_cancel_left, Option, Result, IsPrefix}
use Rattle.law_moves.proofs.Vocabulary.{Leg, GiveRefused, Acts, Message, Row, Rules, OnLeg, Move, Up, HeadCame, PduCame, PacketCame, Puts, IsDrawn, Marks, Pings, Passage, moved, taken_by, put_by, EndMove, Moves, Gives, Takes, Closes, Recycles, EndPassage, end_moved, all_end_moved, end_now_at, given_by, with_first}

-- nothing more was put, or one message
abbrev MayAdd : List OnLeg → List OnLeg → Type 0
MayAdd old new = (new ≡ old) ⊎ ((one : OnLeg) × (new ≡ old ++ one ∷ []))

module _ {S : Type 0} (rules : Rules S) (acts : Acts S) where
  row_adds : (p : Passage S) (leg : Leg) (m : Message) (x : S × Row)
      → (taken_by p leg m x).put ≡ p.put
  row_adds p leg m (s, Ok taken) = refl
  row_adds p leg m (s, Err why) = refl

  put_adds : (p : Passage S) (leg : Leg) (pick : Option (S × Message))
      → MayAdd p.put (put_by p leg pick).put
  put_adds p leg None = inl refl
  put_adds p leg (Some one) = inr ((leg, one.1), refl)

  move_adds : (p : Passage S) (move : Move) → MayAdd p.put (moved rules p move).put
  move_adds p (Up leg cookie) = inl refl
  move_adds p (HeadCame leg text) = inl refl
  move_adds p (PduCame leg count bytes) = inl (row_adds p leg _ (rules.pdu p.role leg count bytes))
  move_adds p (PacketCame leg count named) =
      inl (row_adds p leg _ (rules.packet p.role leg count named))
  move_adds p (Puts leg) = put_adds p leg (rules.put p.role leg)
  move_adds p (IsDrawn leg) = inl refl
  move_adds p (Marks leg) = inl refl
  move_adds p (Pings leg) = inl refl

  give_adds : (p : EndPassage S) (bytes : List ℕ) (x : S × Result (Unit {0}) GiveRefused)
      → (given_by p bytes x).passage.put ≡ p.passage.put
  give_adds p bytes (s, Ok accepted) = refl
  give_adds p bytes (s, Err refused) = refl

  first_adds : (p : EndPassage S) (pdus : List (List ℕ))
      → (with_first p pdus).passage.put ≡ p.passage.put
  first_adds p [] = refl
  first_adds p (pdu ∷ pdus) = refl

  end_move_adds : (p : EndPassage S) (move : EndMove)
      → MayAdd p.passage.put (end_moved rules acts p move).passage.put
  end_move_adds p (Moves move) = move_adds p.passage move
  end_move_adds p (Gives bytes) = inl (give_adds p bytes (acts.give p.passage.role bytes))
  end_move_adds p Takes =
      inl (first_adds (end_now_at p (acts.take p.passage.role))
      (acts.line p.passage.role).current.pdus)
  end_move_adds p Closes = inl refl
  end_move_adds p Recycles = inl refl

  -- what was put stays
  stays : (p : EndPassage S) (moves : List EndMove)
      → IsPrefix p.passage.put (all_end_moved rules acts p moves).passage.put
  stays p [] = ([], append-nil p.passage.put)
  stays p (move ∷ moves) =
      by (end_move_adds p move) (stays (end_moved rules acts p move) moves)
    where
      next : List OnLeg
      next = (end_moved rules acts p move).passage.put

      last : List OnLeg
      last = (all_end_moved rules acts p (move ∷ moves)).passage.put

      by : MayAdd p.passage.put next → IsPrefix next last → IsPrefix p.passage.put last
      by (inl same) rest = subst (λ (l : List OnLeg). IsPrefix l last) same rest
      by (inr one) rest = (
        one.0 ∷ rest.0,
        sym (append_assoc p.passage.put (one.0 ∷ []) rest.0)
            ∙ ap (λ (l : List OnLeg). l ++ rest.0) (sym one.1) ∙ rest.1,
      )

  -- behind a front of the moves just these messages were put
  pub record PutsJust (p : EndPassage S) (moves : List EndMove) (log : List OnLeg)
      : Type 0 where
    pub front : List EndMove
    pub later : List EndMove
    pub is : moves ≡ front ++ later
    pub put : (all_end_moved rules acts p front).passage.put ≡ log

  later_front : (p : EndPassage S) (move : EndMove) (moves : List EndMove) (log : List OnLeg)
      → PutsJust (end_moved rules acts p move) moves log → PutsJust p (move ∷ moves) log
  later_front p move moves log rest = record {
    front = move ∷ rest.front;
    later = rest.later;
    is = ap (λ (l : List EndMove). move ∷ l) rest.is;
    put = rest.put;
  }

  -- a front of what was put that begins with what stands there
  pub front_of : (p : EndPassage S) (moves : List EndMove) (log more : List OnLeg)
      → (all_end_moved rules acts p moves).passage.put ≡ (p.passage.put ++ log) ++ more
      → PutsJust p moves (p.passage.put ++ log)
  front_of p moves [] more e = record {
    front = [];
    later = moves;
    is = refl;
    put = sym (append-nil p.passage.put);
  }
  front_of p [] (one ∷ log) more e =
      let none : [] ≡ one ∷ log ++ more =
      append_cancel_left p.passage.put [] (one ∷ log ++ more)
      (append-nil p.passage.put ∙ e ∙ append_assoc p.passage.put (one ∷ log) more) in
      absurd cc
  front_of p (move ∷ moves) (one ∷ log) more e =
      by (end_move_adds p move)
      (λ rest. front_of (end_moved rules acts p move) moves rest more)
      (stays (end_moved rules acts p move) moves)
    where
      before : List OnLeg
      before = p.passage.put

      next : List OnLeg
      next = (end_moved rules acts p move).passage.put

      last : List OnLeg
      last = (all_end_moved rules acts p (move ∷ moves)).passage.put

      by : MayAdd before next
          → ((rest : List OnLeg) → last ≡ (next ++ rest) ++ more
          → PutsJust (end_moved rules acts p move) moves (next ++ rest))
          → IsPrefix next last → PutsJust p (move ∷ moves) (before ++ one ∷ log)
      by (inl same) front further =
          later_front p move moves (before ++ one ∷ log)
          (subst (λ (l : List OnLeg).
          PutsJust (end_moved rules acts p move) moves (l ++ one ∷ log)) same
          (front (one ∷ log)
          (e ∙ ap (λ (l : List OnLeg). (l ++ one ∷ log) ++ more) (sym same))))
      by (inr added) front further =
          let tail : added.0 ∷ further.0 ≡ one ∷ log ++ more =
          append_cancel_left before (added.0 ∷ further.0) (one ∷ log ++ more)
          (sym (append_assoc before (added.0 ∷ []) further.0)
          ∙ ap (λ (l : List OnLeg). l ++ further.0) (sym added.1) ∙ further.1 ∙ e
          ∙ append_assoc before (one ∷ log) more) in
          let first : added.0 ≡ one = cc in
          let is : next ++ log ≡ before ++ one ∷ log =
          ap (λ (l : List OnLeg). l ++ log) (added.1
          ∙ ap (λ (x : OnLeg). before ++ x ∷ []) first)
          ∙ append_assoc before (one ∷ []) log in
          later_front p move moves (before ++ one ∷ log)
          (subst (PutsJust (end_moved rules acts p move) moves) is
          (front log (e ∙ ap (λ (l : List OnLeg). l ++ more) (sym is))))
