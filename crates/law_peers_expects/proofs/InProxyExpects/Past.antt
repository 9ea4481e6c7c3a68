-- what a client's passage was before it put an IN_R1/A5, and that nothing goes from a log
use Rattle.law_order.proofs.Vocabulary.{◌≡◌, ◌⊎◌, ℕ, ◌<◌, ◌≤◌, Bool, true, false, List, [], ◌∷◌, ◌++◌, Some, None, Ok, Err, inl, inr, refl, sym, ap, subst, arith, append_assoc, nat_tests, nat_le, Option, Result, IsPrefix}
use Rattle.rh_client.specs.declared.replacement.Replacement.TheVariants as replacing
use Rattle.rh_client.specs.declared.replacement.InStage.TheVariants as in_stage
use Rattle.law_moves.proofs.Vocabulary.{Named, ClientConfig, Leg, ClientIn, ClientOut, GiveRefused, Acts, Message, Row, Rules, Pdu, Packet, OnLeg, Move, Up, HeadCame, PduCame, PacketCame, Puts, IsDrawn, Marks, Pings, Passage, moved, all_moved, taken_by, put_by, EndMove, Moves, Gives, Takes, Closes, Recycles, EndPassage, end_moved, all_end_moved, end_now_at, given_by, with_first, AreAllowedAtEnd, of_leg, HasOne}
use Rattle.law_moves.proofs.Lemmas.{RowKeeps, PutKeeps, StepsKeep, moves_keep, leg_more, one_more_so}
use Rattle.law_role_client.proofs.Vocabulary.{Replacement, ClientRole, acts, rules, AreAllowedMoves, client_moved, client_started, is_in_a4, is_in_r1_a5, total, InIsAt, ReplacesIns, in_answered, in_asked, in_handed_over}

-- ---- a move either takes or puts

module _ {S : Type 0} (rules : Rules S) (acts : Acts S) where
  -- what came stays as it was, or what was put
  abbrev Stays : Passage S → Passage S → Type 0
  Stays p q = (q.came ≡ p.came) ⊎ (q.put ≡ p.put)

  taken_stays : (p : Passage S) (leg : Leg) (m : Message) (row : S × Row)
      → Stays p (taken_by p leg m row)
  taken_stays p leg m (s, Ok taken) = inr refl
  taken_stays p leg m (s, Err why) = inr refl

  put_stays : (p : Passage S) (leg : Leg) (pick : Option (S × Message))
      → Stays p (put_by p leg pick)
  put_stays p leg None = inl refl
  put_stays p leg (Some one) = inl refl

  move_stays : (p : Passage S) (move : Move) → Stays p (moved rules p move)
  move_stays p (Up leg cookie) = inl refl
  move_stays p (HeadCame leg text) = inl refl
  move_stays p (PduCame leg count bytes) =
      taken_stays p leg (Pdu bytes) (rules.pdu p.role leg count bytes)
  move_stays p (PacketCame leg count named) =
      taken_stays p leg (Packet named) (rules.packet p.role leg count named)
  move_stays p (Puts leg) = put_stays p leg (rules.put p.role leg)
  move_stays p (IsDrawn leg) = inl refl
  move_stays p (Marks leg) = inl refl
  move_stays p (Pings leg) = inl refl

  given_stays : (p : EndPassage S) (bytes : List ℕ) (x : S × Result (Unit {0}) GiveRefused)
      → Stays p.passage (given_by p bytes x).passage
  given_stays p bytes (s, Ok accepted) = inl refl
  given_stays p bytes (s, Err why) = inl refl

  first_stays : (p q : EndPassage S) (pdus : List (List ℕ)) → q.passage.came ≡ p.passage.came
      → Stays p.passage (with_first q pdus).passage
  first_stays p q [] e = inl e
  first_stays p q (pdu ∷ pdus) e = inl e

  end_move_stays : (p : EndPassage S) (move : EndMove)
      → Stays p.passage (end_moved rules acts p move).passage
  end_move_stays p (Moves move) = move_stays p.passage move
  end_move_stays p (Gives bytes) = given_stays p bytes (acts.give p.passage.role bytes)
  end_move_stays p Takes =
      first_stays p (end_now_at p (acts.take p.passage.role))
      (acts.line p.passage.role).current.pdus refl
  end_move_stays p Closes = inl refl
  end_move_stays p Recycles = inl refl

  -- ---- fronts of moves

  pub moved_more : (p : EndPassage S) (front : List EndMove) (move : EndMove)
      → all_end_moved rules acts p (front ++ move ∷ [])
      ≡ end_moved rules acts (all_end_moved rules acts p front) move
  moved_more p [] move = refl
  moved_more p (one ∷ front) move = moved_more (end_moved rules acts p one) front move

  allowed_front : (p : EndPassage S) (front later : List EndMove)
      → AreAllowedAtEnd rules acts p (front ++ later) → AreAllowedAtEnd rules acts p front
  allowed_front p [] later h = tt
  allowed_front p (one ∷ front) later h =
      (h.0, allowed_front (end_moved rules acts p one) front later h.1)

  -- the move by which a number reaches another
  pub record Crossing (f : EndPassage S → ℕ) (n : ℕ) (p : EndPassage S) (moves : List EndMove)
      : Type 0 where
    pub front : List EndMove
    pub move : EndMove
    pub later : List EndMove
    pub is : moves ≡ front ++ move ∷ later
    pub below : f (all_end_moved rules acts p front) < n
    pub above : n ≤ f (end_moved rules acts (all_end_moved rules acts p front) move)

  pub crossing : (f : EndPassage S → ℕ) (n : ℕ) (p : EndPassage S) (moves : List EndMove)
      → f p < n → n ≤ f (all_end_moved rules acts p moves) → Crossing f n p moves
  crossing f n p [] below above = absurd (omega (arith, below, above))
  crossing f n p (move ∷ moves) below above =
      by (nat_le n (f (end_moved rules acts p move))) refl
      (crossing f n (end_moved rules acts p move) moves)
    where
      by : (b : Bool) → nat_le n (f (end_moved rules acts p move)) ≡ b
          → (f (end_moved rules acts p move) < n
          → n ≤ f (all_end_moved rules acts (end_moved rules acts p move) moves)
          → Crossing f n (end_moved rules acts p move) moves) → Crossing f n p (move ∷ moves)
      by true e rest = record {
        front = [];
        move = move;
        later = moves;
        is = refl;
        below = below;
        above = grind (arith, nat_tests, e);
      }
      by false e rest =
          let next = rest (grind (arith, nat_tests, e)) above in
          record {
            front = move ∷ next.front;
            move = next.move;
            later = next.later;
            is = ap (λ (ms : List EndMove). move ∷ ms) next.is;
            below = next.below;
            above = next.above;
          }

-- ---- before an IN_R1/A5

-- all successors that were asked for are answered: so many
pub record AllAnswered (config : ClientConfig) (n : ℕ) (moves : List EndMove) : Type 0 where
  pub front : List EndMove
  pub later : List EndMove
  pub is : moves ≡ front ++ later
  pub asked : in_asked (client_moved config front).passage ≡ n
  pub answered : n ≤ in_answered (client_moved config front).passage

asked_by : (n : ℕ) (p : Passage ClientRole) (r : Replacement) → InIsAt p r → in_handed_over p < n
    → n ≤ in_answered p → in_answered p ≤ in_asked p → in_asked p ≡ n
asked_by n p (replacing.In in_stage.Asked waits) at below most order =
    let same = at.0 in absurd (omega (arith, same, below, most))
asked_by n p (replacing.In in_stage.Answered waits) at below most order =
    let answered = at.0 in
    let asked = at.1 in omega (arith, answered, asked, below, most)
asked_by n p replacing.NoneUnderWay at below most order =
    let same = at.0 in absurd (omega (arith, same, below, most))
asked_by n p (replacing.Out stage waits) at below most order =
    let same = at.0 in absurd (omega (arith, same, below, most))

module _ (config : ClientConfig)
    (law : (moves : List EndMove) → AreAllowedMoves config moves
    → ReplacesIns (client_moved config moves).passage) where
  abbrev handed : EndPassage ClientRole → ℕ
  handed p = in_handed_over p.passage

  -- there was such a moment before that many IN_R1/A5 were put
  pub all_answered : (n : ℕ) (moves : List EndMove) → AreAllowedMoves config moves → 1 ≤ n
      → n ≤ in_handed_over (client_moved config moves).passage → AllAnswered config n moves
  all_answered n moves allowed least most =
      let at = crossing rules acts handed n (client_started config) moves (omega (arith, least))
      most in
      let here = client_moved config at.front in
      let allowed_all = subst (AreAllowedMoves config) at.is allowed in
      let then_law = law at.front
      (allowed_front rules acts (client_started config) at.front (at.move ∷ at.later)
      allowed_all) in
      let next_law = subst (λ (p : EndPassage ClientRole). ReplacesIns p.passage)
      (moved_more rules acts (client_started config) at.front at.move)
      (law (at.front ++ at.move ∷ [])
      (allowed_front rules acts (client_started config) (at.front ++ at.move ∷ []) at.later
      (subst (AreAllowedMoves config) (sym (append_assoc at.front (at.move ∷ []) at.later))
      allowed_all))) in
      let enough = answers here (end_moved rules acts here at.move)
      (end_move_stays rules acts here at.move) at.below at.above next_law.answered in
      record {
        front = at.front;
        later = at.move ∷ at.later;
        is = at.is;
        asked = asked_by n here.passage here.passage.role.replacement then_law.at at.below enough
            then_law.asked;
        answered = enough;
      }
    where
      answers : (p q : EndPassage ClientRole)
          → (q.passage.came ≡ p.passage.came) ⊎ (q.passage.put ≡ p.passage.put)
          → handed p < n → n ≤ handed q → in_handed_over q.passage ≤ in_answered q.passage
          → n ≤ in_answered p.passage
      answers p q (inl came) below above order =
          let same = ap (total is_in_a4 ClientOut) came in omega (arith, above, order, same)
      answers p q (inr put) below above order =
          let same = ap (total is_in_r1_a5 ClientIn) put in
          absurd (omega (arith, below, above, same))

-- ---- nothing goes from a log

module _ {S : Type 0} (rules : Rules S) (P : Named → Type 0) (leg : Leg) where
  abbrev HasPut : S → List OnLeg → List OnLeg → Type 0
  HasPut s came put = HasOne P (of_leg leg put)

  row_keeps : (one : OnLeg) (came put : List OnLeg) (row : S × Row) → HasOne P (of_leg leg put)
      → RowKeeps HasPut one came put row
  row_keeps one came put (s, Ok taken) h = h
  row_keeps one came put (s, Err why) h = h

  put_keeps : (at : Leg) (came put : List OnLeg) (pick : Option (S × Message))
      → HasOne P (of_leg leg put) → PutKeeps HasPut at came put pick
  put_keeps at came put None h = tt
  put_keeps at came put (Some one) h =
      subst (HasOne P) (sym (leg_more leg put (at, one.1)))
      (one_more_so P (of_leg leg put) (of_leg leg ((at, one.1) ∷ [])) h)

  stays : StepsKeep rules HasPut
  stays = record {
    up = λ s at cookie came put h. h;
    head = λ s at text came put h. h;
    pdu = λ s at count bytes came put h.
        row_keeps (at, Pdu bytes) came put (rules.pdu s at count bytes) h;
    packet = λ s at count named came put h.
        row_keeps (at, Packet named) came put (rules.packet s at count named) h;
    put = λ s at came put h. put_keeps at came put (rules.put s at) h;
    drawn = λ s at came put h. h;
    mark = λ s at came put h. h;
    ping = λ s at came put h. h;
  }

  all_append : (p : Passage S) (front later : List Move)
      → all_moved rules p (front ++ later) ≡ all_moved rules (all_moved rules p front) later
  all_append p [] later = refl
  all_append p (one ∷ front) later = all_append (moved rules p one) front later

  -- what was put behind a front of the moves was put
  pub was_put : (p : Passage S) (front moves : List Move) → IsPrefix front moves
      → HasOne P (of_leg leg (all_moved rules p front).put)
      → HasOne P (of_leg leg (all_moved rules p moves).put)
  was_put p front moves more has =
      subst (λ (ms : List Move). HasOne P (of_leg leg (all_moved rules p ms).put)) more.1
      (subst (λ (q : Passage S). HasOne P (of_leg leg q.put)) (sym (all_append p front more.0))
      (moves_keep rules HasPut stays (all_moved rules p front) more.0 has))
