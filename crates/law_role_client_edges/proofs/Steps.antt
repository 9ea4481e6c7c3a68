-- the steps of a client keep what is known of its channels
use Rattle.law_order.proofs.Vocabulary.{◌≡◌, ◌⊎◌, ℕ, ◌==◌, true, true≢false, List, [], ◌∷◌, ◌++◌, inl, inr, arith, refl, rules, sym, ap, subst}
use Rattle.law_moves.proofs.Vocabulary.{by_test, Cookie, ClientConfig, Named, ConnC2, Leg, LegKind, ClientOut, ClientIn, OutServer, InServer, OnLeg, Up, PacketCame, EndMove, Moves, EndPassage, end_moved, MayEndMove, AreAllowedAtEnd, HasComeUp, WasUp, IsUpFirst, AreUpFirst}
use Rattle.law_moves.proofs.Lemmas.{Fact}
use Rattle.law_node_causes.proofs.ClientLegs.{client_once, client_keeps, first_is}
use Rattle.law_node_causes.specs.Numbers.{ClientIsNumbered}
use Rattle.law_role_client.proofs.Vocabulary.{ClientRole, first, unopened_in, is_open, ci, give, ping, drawn_by, acts as client_acts, rules as client_rules, was_up, AreAllowedMoves, client_moved, client_started}
use Rattle.law_role_client_edges.specs.Knowing.{AreAnswers, IsAnswer, IsAnswerPacket}
use Rattle.law_role_client_edges.proofs.Along.{May, AllMay, LetKeep, let_moves_keep}
use Rattle.law_role_client_edges.proofs.Facts.{Same, same_holds}
use Rattle.law_role_client_edges.proofs.Replaced.{recycle_holds, take_holds, open_is}
use Rattle.law_role_client_edges.proofs.Ups.{up_fits}
use Rattle.law_role_client_edges.proofs.Rows.{Fits, OfPacket, OfMove, pdu_fits, packet_fits}
use Rattle.law_role_client_edges.proofs.Puts.{put_fits}

same_ping : (s : ClientRole) (leg : Leg) → Same s (ping s leg)
same_ping s leg = search rules

same_give : (s : ClientRole) (bytes : List ℕ) → Same s (give s bytes).0
same_give s bytes = search rules

module _ (Answers Rises : Type 0) (Comes : Leg → Cookie → Type 0) where
  abbrev Let : May ClientRole
  Let s move = MayEndMove client_rules s move × OfMove Answers Rises Comes s move

  -- the leg of the predecessor is of no use any more
  left : (s : ClientRole) (came put : List OnLeg) → Fits Answers Rises Comes s came put
      → Fits Answers Rises Comes (record s { leaving = unopened_in 0 s.config.lifetime }) came put
  left s came put h = record {
    fresh = h.fresh;
    ins = record {
      follows = h.ins.follows;
      next_up = h.ins.next_up;
      next_in = h.ins.next_in;
      before = λ f. absurd (true≢false (sym f));
      comes = h.ins.comes;
      next_comes = h.ins.next_comes;
      leaving_comes = λ f. absurd (true≢false (sym f));
      counted = h.ins.counted;
      up = h.ins.up;
      told = h.ins.told;
      next_told = h.ins.next_told;
      leaving_told = λ f. absurd (true≢false (sym f));
      knows = h.ins.knows;
      knows_next = h.ins.knows_next;
      knows_leaving = λ a f. absurd (true≢false (sym f));
    };
    outs = h.outs;
    over = h.over;
  }

  drawn_fits : (s : ClientRole) (n : ℕ) (kind : LegKind) (came put : List OnLeg)
      → Fits Answers Rises Comes s came put
      → Fits Answers Rises Comes (drawn_by s n kind) came put
  drawn_fits s n ClientIn came put h =
      by_test (λ (t : ClientRole). Fits Answers Rises Comes t came put) (n == s.leaving.number)
      (record s { leaving = unopened_in 0 s.config.lifetime }) s (λ e. left s came put h)
      (λ e. h)
  drawn_fits s n ClientOut came put h = h
  drawn_fits s n OutServer came put h = h
  drawn_fits s n InServer came put h = h

  steps : LetKeep client_rules client_acts Let (Fits Answers Rises Comes)
  steps = record {
    up = λ s leg cookie came put is h.
        up_fits Answers Rises Comes s cookie came put h leg.number leg.kind is.0.1 is.1;
    head = λ s leg text came put h. h;
    pdu = λ s leg count bytes came put h.
        pdu_fits Answers Rises Comes s leg leg.kind bytes came put h;
    packet = λ s leg count m came put is h.
        packet_fits Answers Rises Comes s leg leg.kind count m came put refl is.1 h;
    put = λ s leg came put h. put_fits Answers Rises Comes leg came put s h;
    drawn = λ s leg came put h. drawn_fits s leg.number leg.kind came put h;
    mark = λ s leg came put h. h;
    ping = λ s leg came put h.
        same_holds Answers Rises Comes s (ping s leg) came put (same_ping s leg) h;
    give = λ s bytes came put h.
        same_holds Answers Rises Comes s (give s bytes).0 came put (same_give s bytes) h;
    take = λ s came put h.
        take_holds Answers Rises Comes came put s s.line.current.pdus refl h;
    close = λ s came put h. h;
    recycle = λ s came put is h.
        recycle_holds Answers Rises Comes came put s s.replacement refl
        (open_is s.phase (ap is_open is.0)) h;
  }

  starts : (config : ClientConfig) → Fits Answers Rises Comes (first config) [] []
  starts config = record {
    fresh = λ f. record {
      way_is = refl;
      first = refl;
      not_put = refl;
      line_is = refl;
      none = refl;
    };
    ins = record {
      follows = λ f. absurd (true≢false (sym f));
      next_up = λ f. absurd (true≢false (sym f));
      next_in = λ f. absurd (true≢false (sym f));
      before = λ f. absurd (true≢false (sym f));
      comes = λ f. absurd (true≢false (sym f));
      next_comes = λ f. absurd (true≢false (sym f));
      leaving_comes = λ f. absurd (true≢false (sym f));
      counted = λ f. absurd (true≢false f);
      up = λ a f. absurd (true≢false f);
      told = λ f. absurd (true≢false f);
      next_told = λ f. absurd (true≢false (sym f));
      leaving_told = λ f. absurd (true≢false (sym f));
      knows = λ a f. absurd (true≢false f);
      knows_next = λ a f. absurd (true≢false (sym f));
      knows_leaving = λ a f. absurd (true≢false (sym f));
    };
    outs = record {
      follows = λ f. absurd (true≢false (sym f));
      next_up = λ f. absurd (true≢false (sym f));
      up = λ a f. absurd (true≢false f);
      size_is = refl;
      acked = λ a. inl (omega arith);
      next_window = λ f. absurd (true≢false (sym f));
      next_held = refl;
      next_size = refl;
      begun = λ f. absurd (true≢false (sym f));
      next_begun = λ f. absurd (true≢false (sym f));
      finished = refl;
      there = λ f. absurd (true≢false (sym f));
    };
    over = λ f. absurd (true≢false (sym f));
  }

-- ---- a leg that came up before was up

-- the leg came up at the last of some moves, or did before
up_last : (before : List EndMove) (move : EndMove) (leg : Leg) (cookie : Cookie)
    → HasComeUp (before ++ move ∷ []) leg cookie
    → WasUp before leg ⊎ (move ≡ Moves (Up leg cookie))
up_last [] move leg cookie (inl is) = inr is
up_last [] move leg cookie (inr rest) = absurd rest
up_last (one ∷ before) move leg cookie (inl is) = inl (cookie, inl is)
up_last (one ∷ before) move leg cookie (inr rest) = by (up_last before move leg cookie rest)
  where
    by : WasUp before leg ⊎ (move ≡ Moves (Up leg cookie))
        → WasUp (one ∷ before) leg ⊎ (move ≡ Moves (Up leg cookie))
    by (inl is) = inl (is.0, inr is.1)
    by (inr is) = inr is

abbrev Were : List EndMove → ClientRole → Type 0
Were before s = (leg : Leg) → WasUp before leg → was_up s leg ≡ true

were_then : (before : List EndMove) (p : EndPassage ClientRole) (move : EndMove)
    → MayEndMove client_rules p.passage.role move → ClientIsNumbered p.passage.role
    → Were before p.passage.role
    → Were (before ++ move ∷ []) (end_moved client_rules client_acts p move).passage.role
were_then before p move may numbered were leg (cookie, is) =
    by (up_last before move leg cookie is)
  where
    by : WasUp before leg ⊎ (move ≡ Moves (Up leg cookie))
        → was_up (end_moved client_rules client_acts p move).passage.role leg ≡ true
    by (inl was) = client_keeps.stays p move leg numbered may (were leg was)
    by (inr now) =
        subst (λ (m : EndMove).
        was_up (end_moved client_rules client_acts p m).passage.role leg ≡ true) (sym now)
        (client_once.up p.passage.role leg cookie numbered
        (subst (λ (m : EndMove). MayEndMove client_rules p.passage.role m) now may))

-- ---- what is known of each move

module _ (all : List EndMove) where
  abbrev Came : Leg → Cookie → Type 0
  Came leg cookie = HasComeUp all leg cookie

  abbrev pub Known : Fact ClientRole
  Known s came put = Fits (AreAnswers [] all) (AreUpFirst [] all) Came s came put

  of_packet : (before : List EndMove) (s : ClientRole) (leg : Leg) (m : Named) → Were before s
      → (AreUpFirst [] all → WasUp before leg) → (AreAnswers [] all → IsAnswerPacket before m)
      → OfPacket (AreAnswers [] all) (AreUpFirst [] all) Came s leg m
  of_packet before s leg (ConnC2 version window timeout) were first answers =
      (λ so. were leg (first so), λ so. were (ci 1) (answers so))
  of_packet before s leg m were first answers = tt

  of_move : (before : List EndMove) (s : ClientRole) (move : EndMove) → Were before s
      → (AreUpFirst [] all → IsUpFirst before move) → (AreAnswers [] all → IsAnswer before move)
      → ((leg : Leg) (cookie : Cookie) → move ≡ Moves (Up leg cookie) → Came leg cookie)
      → OfMove (AreAnswers [] all) (AreUpFirst [] all) Came s move
  of_move before s (Moves (Up leg cookie)) were first answers comes = comes leg cookie refl
  of_move before s (Moves (PacketCame leg count m)) were first answers comes =
      of_packet before s leg m were first answers
  of_move before s move were first answers comes = tt

  each_let : (before : List EndMove) (p : EndPassage ClientRole) (moves : List EndMove)
      → AreAllowedAtEnd client_rules client_acts p moves → ClientIsNumbered p.passage.role
      → Were before p.passage.role → (AreUpFirst [] all → AreUpFirst before moves)
      → (AreAnswers [] all → AreAnswers before moves)
      → ((leg : Leg) (cookie : Cookie) → HasComeUp moves leg cookie → Came leg cookie)
      → AllMay client_rules client_acts (Let (AreAnswers [] all) (AreUpFirst [] all) Came) p moves
  each_let before p [] allowed numbered were first answers comes = tt
  each_let before p (move ∷ moves) allowed numbered were first answers comes = (
    (
      allowed.0,
      of_move before p.passage.role move were (λ so. (first so).0) (λ so. (answers so).0)
          (λ leg cookie is. comes leg cookie (inl is)),
    ),
    each_let (before ++ move ∷ []) (end_moved client_rules client_acts p move) moves allowed.1
        (client_keeps.kept p move numbered allowed.0)
        (were_then before p move allowed.0 numbered were) (λ so. (first so).1)
        (λ so. (answers so).1) (λ leg cookie later. comes leg cookie (inr later)),
  )

pub known_behind : (config : ClientConfig) (moves : List EndMove) → AreAllowedMoves config moves
    → (let p = (client_moved config moves).passage in Known moves p.role p.came p.put)
known_behind config moves allowed =
    let_moves_keep client_rules client_acts
    (Let (AreAnswers [] moves) (AreUpFirst [] moves) (Came moves)) (Known moves)
    (steps (AreAnswers [] moves) (AreUpFirst [] moves) (Came moves)) (client_started config) moves
    (each_let moves [] (client_started config) moves allowed (first_is config)
    (λ leg was. absurd was.1) (λ so. so) (λ so. so) (λ leg cookie is. is))
    (starts (AreAnswers [] moves) (AreUpFirst [] moves) (Came moves) config)
