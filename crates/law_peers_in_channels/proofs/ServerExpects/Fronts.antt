-- moves of an end one by one: of each, at most one message more came, and then none was put
use Rattle.law_order.proofs.Vocabulary.{◌≡◌, ◌⊎◌, ℕ, List, [], ◌∷◌, ◌++◌, append_assoc, Some, None, Ok, Err, inl, inr, refl, sym, ◌∙◌, subst, append-nil, Option, Result}
use Rattle.law_moves.proofs.Vocabulary.{Leg, GiveRefused, Rules, Acts, Row, Message, Pdu, Packet, OnLeg, Move, Up, HeadCame, PduCame, PacketCame, Puts, IsDrawn, Marks, Pings, Passage, moved, taken_by, put_by, EndMove, Moves, Gives, Takes, Closes, Recycles, EndPassage, end_moved, all_end_moved, end_now_at, given_by, with_first}

-- all fronts have what the first has, if each has it behind the one before
pub all_fronts : {X : Type 0} (P : List X → Type 0) (all : List X)
    → ((front : List X) (x : X) (later : List X) → all ≡ front ++ x ∷ later → P front
    → P (front ++ x ∷ [])) → P [] → P all
all_fronts {X} P all next first = from [] all refl first
  where
    from : (front later : List X) → all ≡ front ++ later → P front → P all
    from front [] e h = subst P (sym (e ∙ append-nil front)) h
    from front (x ∷ later) e h =
        from (front ++ x ∷ []) later (e ∙ sym (append_assoc front (x ∷ []) later))
        (next front x later e h)

module _ {S : Type 0} (rules : Rules S) (acts : Acts S) where
  pub behind_all : (p : EndPassage S) (a : List EndMove) (move : EndMove)
      → all_end_moved rules acts p (a ++ move ∷ [])
      ≡ end_moved rules acts (all_end_moved rules acts p a) move
  behind_all p [] move = refl
  behind_all p (x ∷ a) move = behind_all (end_moved rules acts p x) a move

  -- nothing came, or one came and nothing was put
  abbrev pub IsOneMore : Passage S → Passage S → Type 0
  IsOneMore p q =
      (q.came ≡ p.came) ⊎ ((one : OnLeg) × (q.came ≡ p.came ++ one ∷ []) × (q.put ≡ p.put))

  by_row : (p : Passage S) (leg : Leg) (m : Message) (row : S × Row)
      → IsOneMore p (taken_by p leg m row)
  by_row p leg m (s, Ok taken) = inr ((leg, m), refl, refl)
  by_row p leg m (s, Err refused) = inl refl

  by_put : (p : Passage S) (leg : Leg) (pick : Option (S × Message))
      → (put_by p leg pick).came ≡ p.came
  by_put p leg None = refl
  by_put p leg (Some one) = refl

  of_move : (p : Passage S) (move : Move) → IsOneMore p (moved rules p move)
  of_move p (Up leg cookie) = inl refl
  of_move p (HeadCame leg text) = inl refl
  of_move p (PduCame leg count bytes) = by_row p leg (Pdu bytes) (rules.pdu p.role leg count bytes)
  of_move p (PacketCame leg count named) =
      by_row p leg (Packet named) (rules.packet p.role leg count named)
  of_move p (Puts leg) = inl (by_put p leg (rules.put p.role leg))
  of_move p (IsDrawn leg) = inl refl
  of_move p (Marks leg) = inl refl
  of_move p (Pings leg) = inl refl

  by_given : (p : EndPassage S) (bytes : List ℕ) (x : S × Result (Unit {0}) GiveRefused)
      → (given_by p bytes x).passage.came ≡ p.passage.came
  by_given p bytes (s, Ok accepted) = refl
  by_given p bytes (s, Err refused) = refl

  by_first : (p : EndPassage S) (pdus : List (List ℕ))
      → (with_first p pdus).passage.came ≡ p.passage.came
  by_first p [] = refl
  by_first p (pdu ∷ pdus) = refl

  pub one_more : (p : EndPassage S) (move : EndMove)
      → IsOneMore p.passage (end_moved rules acts p move).passage
  one_more p (Moves move) = of_move p.passage move
  one_more p (Gives bytes) = inl (by_given p bytes (acts.give p.passage.role bytes))
  one_more p Takes =
      inl (by_first (end_now_at p (acts.take p.passage.role))
      (acts.line p.passage.role).current.pdus)
  one_more p Closes = inl refl
  one_more p Recycles = inl refl
