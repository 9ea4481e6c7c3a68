-- the move of an end by which a message was put
use Rattle.law_order.proofs.Vocabulary.{◌≡◌, ◌⊎◌, inl, inr, ℕ, List, [], ◌∷◌, ◌++◌, append_assoc, Some, None, Ok, Err, refl, sym, ap, ◌∙◌, append-nil, append_cancel_left, Option, Result}
use Rattle.law_moves.proofs.Vocabulary.{Leg, GiveRefused, Rules, Acts, Row, Message, Pdu, Packet, OnLeg, Move, Up, HeadCame, PduCame, PacketCame, Puts, IsDrawn, Marks, Pings, Passage, taken_by, put_by, EndMove, Moves, Gives, Takes, Closes, Recycles, EndPassage, end_moved, all_end_moved, end_now_at, given_by, with_first}
use Rattle.law_role_client_rows.proofs.InTurn.Lists.{head_of as head_same, tail_of as tail_same}

none_more : {X : Type 0} (more : List X) (x : X) (rest : List X) → [] ≡ more ++ x ∷ rest → ⊥
none_more [] x rest e = absurd cc
none_more (y ∷ more) x rest e = absurd cc

module _ {S : Type 0} (rules : Rules S) (acts : Acts S) where
  -- ---- what one move puts

  record Picked (p : EndPassage S) (move : EndMove) : Type 0 where
    pub leg : Leg
    pub next : S
    pub m : Message
    pub is : move ≡ Moves (Puts leg)
    pub picks : rules.put p.passage.role leg ≡ Some (next, m)
    pub put : (end_moved rules acts p move).passage.put ≡ p.passage.put ++ (leg, m) ∷ []

  -- nothing, or a message
  abbrev IsPut : EndPassage S → EndMove → Type 0
  IsPut p move =
      ((end_moved rules acts p move).passage.put ≡ p.passage.put) ⊎ Picked p move

  by_row : (p : Passage S) (leg : Leg) (m : Message) (row : S × Row)
      → (taken_by p leg m row).put ≡ p.put
  by_row p leg m (s, Ok taken) = refl
  by_row p leg m (s, Err refused) = refl

  by_pick : (p : EndPassage S) (leg : Leg) (pick : Option (S × Message))
      → rules.put p.passage.role leg ≡ pick → IsPut p (Moves (Puts leg))
  by_pick p leg None e =
      inl (ap (λ (o : Option (S × Message)). (put_by p.passage leg o).put) e)
  by_pick p leg (Some (next, m)) e = inr (record {
    leg = leg;
    next = next;
    m = m;
    is = refl;
    picks = e;
    put = ap (λ (o : Option (S × Message)). (put_by p.passage leg o).put) e;
  })

  by_move : (p : EndPassage S) (move : Move) → IsPut p (Moves move)
  by_move p (Up leg cookie) = inl refl
  by_move p (HeadCame leg text) = inl refl
  by_move p (PduCame leg count bytes) =
      inl (by_row p.passage leg (Pdu bytes) (rules.pdu p.passage.role leg count bytes))
  by_move p (PacketCame leg count named) =
      inl (by_row p.passage leg (Packet named) (rules.packet p.passage.role leg count named))
  by_move p (Puts leg) = by_pick p leg (rules.put p.passage.role leg) refl
  by_move p (IsDrawn leg) = inl refl
  by_move p (Marks leg) = inl refl
  by_move p (Pings leg) = inl refl

  by_given : (p : EndPassage S) (bytes : List ℕ) (x : S × Result (Unit {0}) GiveRefused)
      → (given_by p bytes x).passage.put ≡ p.passage.put
  by_given p bytes (s, Ok accepted) = refl
  by_given p bytes (s, Err refused) = refl

  by_first : (p : EndPassage S) (pdus : List (List ℕ))
      → (with_first p pdus).passage.put ≡ p.passage.put
  by_first p [] = refl
  by_first p (pdu ∷ pdus) = refl

  one_put : (p : EndPassage S) (move : EndMove) → IsPut p move
  one_put p (Moves move) = by_move p move
  one_put p (Gives bytes) = inl (by_given p bytes (acts.give p.passage.role bytes))
  one_put p Takes =
      inl (by_first (end_now_at p (acts.take p.passage.role))
      (acts.line p.passage.role).current.pdus)
  one_put p Closes = inl refl
  one_put p Recycles = inl refl

  -- ---- what they all put

  pub record Grows (p q : EndPassage S) : Type 0 where
    pub more : List OnLeg
    pub is : q.passage.put ≡ p.passage.put ++ more

  pub grows : (p : EndPassage S) (moves : List EndMove)
      → Grows p (all_end_moved rules acts p moves)
  grows p [] = record { more = []; is = sym (append-nil p.passage.put) }
  grows p (move ∷ moves) = by (one_put p move) (grows (end_moved rules acts p move) moves)
    where
      by : IsPut p move
          → Grows (end_moved rules acts p move)
          (all_end_moved rules acts (end_moved rules acts p move) moves)
          → Grows p (all_end_moved rules acts (end_moved rules acts p move) moves)
      by (inl same) rest = record {
        more = rest.more;
        is = rest.is ∙ ap (λ (log : List OnLeg). log ++ rest.more) same;
      }
      by (inr one) rest = record {
        more = (one.leg, one.m) ∷ rest.more;
        is = rest.is ∙ ap (λ (log : List OnLeg). log ++ rest.more) one.put
            ∙ append_assoc p.passage.put ((one.leg, one.m) ∷ []) rest.more;
      }

  -- ---- the move by which one of them was put

  pub record Cut (p : EndPassage S) (moves : List EndMove) (log : List OnLeg) (leg : Leg)
      (m : Message) : Type 0 where
    pub front : List EndMove
    pub later : List EndMove
    pub next : S
    pub is : moves ≡ front ++ Moves (Puts leg) ∷ later
    pub before : (all_end_moved rules acts p front).passage.put ≡ log
    pub picks : rules.put (all_end_moved rules acts p front).passage.role leg ≡ Some (next, m)

  pub cut : (p : EndPassage S) (moves : List EndMove) (more : List OnLeg) (leg : Leg)
      (m : Message) (rest : List OnLeg)
      → (all_end_moved rules acts p moves).passage.put
      ≡ p.passage.put ++ (more ++ (leg, m) ∷ rest)
      → Cut p moves (p.passage.put ++ more) leg m
  cut p [] more leg m rest e =
      absurd (none_more more (leg, m) rest
      (append_cancel_left p.passage.put [] (more ++ (leg, m) ∷ rest)
      (append-nil p.passage.put ∙ e)))
  cut p (move ∷ moves) more leg m rest e =
      by (one_put p move) (λ others. cut (end_moved rules acts p move) moves others leg m rest)
      more e
    where
      q : EndPassage S
      q = end_moved rules acts p move

      passed_by : (log : List OnLeg) (other : List OnLeg) → log ≡ other → Cut q moves log leg m
          → Cut p (move ∷ moves) other leg m
      passed_by log other same c = record {
        front = move ∷ c.front;
        later = c.later;
        next = c.next;
        is = ap (λ (ms : List EndMove). move ∷ ms) c.is;
        before = c.before ∙ same;
        picks = c.picks;
      }

      now : (one : Picked p move) → one.leg ≡ leg → one.m ≡ m
          → Cut p (move ∷ moves) (p.passage.put ++ []) leg m
      now one at same = record {
        front = [];
        later = moves;
        next = one.next;
        is = ap (λ (x : EndMove). x ∷ moves) (one.is ∙ ap (λ (l : Leg). Moves (Puts l)) at);
        before = sym (append-nil p.passage.put);
        picks =
            ap (rules.put p.passage.role) (sym at) ∙ one.picks
            ∙ ap (λ (x : Message). Some (one.next, x)) same;
      }

      by : IsPut p move
          → ((others : List OnLeg) → (all_end_moved rules acts q moves).passage.put
          ≡ q.passage.put ++ (others ++ (leg, m) ∷ rest)
          → Cut q moves (q.passage.put ++ others) leg m)
          → (more : List OnLeg)
          → (all_end_moved rules acts q moves).passage.put
          ≡ p.passage.put ++ (more ++ (leg, m) ∷ rest)
          → Cut p (move ∷ moves) (p.passage.put ++ more) leg m
      by (inl same) next more e =
          passed_by (q.passage.put ++ more) (p.passage.put ++ more)
          (ap (λ (log : List OnLeg). log ++ more) same)
          (next more
          (e ∙ ap (λ (log : List OnLeg). log ++ (more ++ (leg, m) ∷ rest)) (sym same)))
      by (inr one) next [] e =
          let more = grows q moves in
          let same : (one.leg, one.m) ∷ more.more ≡ (leg, m) ∷ rest =
          append_cancel_left p.passage.put ((one.leg, one.m) ∷ more.more) ((leg, m) ∷ rest)
          (sym (more.is ∙ ap (λ (log : List OnLeg). log ++ more.more) one.put
          ∙ append_assoc p.passage.put ((one.leg, one.m) ∷ []) more.more) ∙ e) in
          let first : (one.leg, one.m) ≡ (leg, m) =
          head_same (one.leg, one.m) (leg, m) more.more rest same in
          now one (ap (λ (x : OnLeg). x.0) first) (ap (λ (x : OnLeg). x.1) first)
      by (inr one) next (x ∷ others) e =
          let more = grows q moves in
          let same : (one.leg, one.m) ∷ more.more ≡ x ∷ (others ++ (leg, m) ∷ rest) =
          append_cancel_left p.passage.put ((one.leg, one.m) ∷ more.more)
          (x ∷ (others ++ (leg, m) ∷ rest))
          (sym (more.is ∙ ap (λ (log : List OnLeg). log ++ more.more) one.put
          ∙ append_assoc p.passage.put ((one.leg, one.m) ∷ []) more.more) ∙ e) in
          let first : (one.leg, one.m) ≡ x =
          head_same (one.leg, one.m) x more.more (others ++ (leg, m) ∷ rest) same in
          let after : more.more ≡ others ++ (leg, m) ∷ rest =
          tail_same (one.leg, one.m) x more.more (others ++ (leg, m) ∷ rest) same in
          passed_by (q.passage.put ++ others) (p.passage.put ++ x ∷ others)
          (ap (λ (log : List OnLeg). log ++ others) one.put
          ∙ append_assoc p.passage.put ((one.leg, one.m) ∷ []) others
          ∙ ap (λ (y : OnLeg). p.passage.put ++ y ∷ others) first)
          (next others
          (more.is ∙ ap (λ (log : List OnLeg). q.passage.put ++ log) after))
