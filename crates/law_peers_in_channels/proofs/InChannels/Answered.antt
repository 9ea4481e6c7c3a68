-- a server answers IN channels in the order in which they were announced
use Rattle.law_order.proofs.Vocabulary.{◌≡◌, ◌⊎◌, ℕ, zero, suc, ◌+◌, ◌≤◌, Bool, List, [], ◌∷◌, ◌++◌, append_assoc, Some, None, Ok, Err, inl, inr, refl, sym, ap, ◌∙◌, subst, arith, append-nil, Option}
use Rattle.law_moves.proofs.Vocabulary.{Named, Leg, LegKind, InServer, OutServer, Acts, Message, Row, Rules, Packet, Pdu, EndMove, EndPassage, OnLeg, Passage, all_end_moved, end_moved, end_started, count_of, of_kind}
use Rattle.law_moves.proofs.Lemmas.{ActsKeep, PutKeeps, RowKeeps, StepsKeep, end_moves_keep, count_rises, kind_more}
use Rattle.law_role_server.proofs.Vocabulary.{acts, first, rules, Server, in_came, is_in_r1_a2, is_in_r1_a3, is_in_r2_a2, out_put}
use Rattle.law_role_server.specs.Counted.Answering as answering
use Rattle.law_peers_moments.specs.GoingRound.{GoRound, announced, taken_in}
use Rattle.law_peers_moments.specs.Moments.{IsJoined, IsMoment, Moves, Numbers, client_behind, server_behind}
use Rattle.law_peers_in_channels.proofs.ServerExpects.Fronts.{IsOneMore, behind_all, one_more}
use Rattle.law_peers_in_channels.proofs.InChannels.More.{OneMore, one_more_of}
use Rattle.law_peers_in_channels.specs.InChannels.{AreAnswered, passed}

-- ---- what was put stays

module _ {S : Type 0} (rules_of : Rules S) (acts_of : Acts S) (test : Named → Bool)
    (kind : LegKind) (least : ℕ) where
  abbrev HasPut : S → List OnLeg → List OnLeg → Type 0
  HasPut s came put = least ≤ count_of test (of_kind kind put)

  row_keeps : (one : OnLeg) (came put : List OnLeg) (row : S × Row)
      → least ≤ count_of test (of_kind kind put) → RowKeeps HasPut one came put row
  row_keeps one came put (s, Ok taken) h = h
  row_keeps one came put (s, Err why) h = h

  put_keeps : (leg : Leg) (came put : List OnLeg) (pick : Option (S × Message))
      → least ≤ count_of test (of_kind kind put) → PutKeeps HasPut leg came put pick
  put_keeps leg came put None h = tt
  put_keeps leg came put (Some one) h =
      let more = count_rises test (of_kind kind put) (of_kind kind ((leg, one.1) ∷ [])) in
      let same = ap (count_of test) (kind_more kind put (leg, one.1)) in
      omega (arith, h, more, same)

  steps_keep : StepsKeep rules_of HasPut
  steps_keep = record {
    up = λ s leg cookie came put h. h;
    head = λ s leg text came put h. h;
    pdu = λ s leg count bytes came put h.
        row_keeps (leg, Pdu bytes) came put (rules_of.pdu s leg count bytes) h;
    packet = λ s leg count named came put h.
        row_keeps (leg, Packet named) came put (rules_of.packet s leg count named) h;
    put = λ s leg came put h. put_keeps leg came put (rules_of.put s leg) h;
    drawn = λ s leg came put h. h;
    mark = λ s leg came put h. h;
    ping = λ s leg came put h. h;
  }

  acts_keep : ActsKeep acts_of HasPut
  acts_keep = record {
    give = λ s bytes came put h. h;
    take = λ s came put h. h;
    close = λ s came put h. h;
    recycle = λ s came put h. h;
  }

  put_stays : (p : EndPassage S) (move : EndMove)
      → least ≤ count_of test (of_kind kind p.passage.put)
      → least ≤ count_of test (of_kind kind (end_moved rules_of acts_of p move).passage.put)
  put_stays p move h =
      end_moves_keep rules_of HasPut steps_keep acts_of acts_keep p (move ∷ []) h

-- ---- behind a front

module _ (start : Passage Server) where
  -- no more was announced, or all IN_R1/A2 that had come are answered
  pub record Holds (p : Passage Server) : Type 0 where
    pub came : in_came is_in_r1_a2 start ≤ in_came is_in_r1_a2 p
    pub either : (announced p ≡ announced start)
        ⊎ (in_came is_in_r1_a2 start ≤ out_put is_in_r1_a3 p)

  -- where answers are no more than announcements, so many answers are all of them
  all_answered : (p : Passage Server) → answering.AreAnswered p → Holds p
      → announced p ≡ announced start → announced start ≤ taken_in p
      → in_came is_in_r1_a2 start ≤ out_put is_in_r1_a3 p
  all_answered p law h same enough =
      let came = h.came in
      let a = law.in_r1_at_most in
      let b = law.in_r2_at_most in omega (arith, came, a, b, same, enough)

  module _ (p q : Passage Server) (law : answering.AreAnswered p)
      (late : announced q ≤ taken_in q + 1)
      (rise : out_put is_in_r1_a3 p ≤ out_put is_in_r1_a3 q) (h : Holds p) where
    one_came : OneMore p q → Holds q
    one_came more = record {
      came = let before = h.came in
          let all = more.on_all is_in_r1_a2 in omega (arith, before, all);
      either = by h.either (more.more is_in_r1_a2 + more.more is_in_r2_a2) refl;
    }
      where
        by : (announced p ≡ announced start)
            ⊎ (in_came is_in_r1_a2 start ≤ out_put is_in_r1_a3 p) → (n : ℕ)
            → more.more is_in_r1_a2 + more.more is_in_r2_a2 ≡ n
            → (announced q ≡ announced start)
            ⊎ (in_came is_in_r1_a2 start ≤ out_put is_in_r1_a3 q)
        by (inr answered) n e = inr (omega (arith, answered, rise))
        by (inl same) zero e =
            let a = more.on_all is_in_r1_a2 in
            let b = more.on_all is_in_r2_a2 in inl (omega (arith, same, a, b, e))
        by (inl same) (suc n) e =
            let a = more.on_all is_in_r1_a2 in
            let b = more.on_all is_in_r2_a2 in
            let put = more.put in
            let answered = all_answered p law h same
            (omega (arith, same, a, b, e, put, late)) in
            inr (omega (arith, answered, rise))

    none_came : q.came ≡ p.came → Holds q
    none_came e = record {
      came =
          let before = h.came in
          let same = ap (λ (log : List OnLeg). count_of is_in_r1_a2 (of_kind InServer log)) e in
          omega (arith, before, same);
      either = by h.either;
    }
      where
        by : (announced p ≡ announced start)
            ⊎ (in_came is_in_r1_a2 start ≤ out_put is_in_r1_a3 p)
            → (announced q ≡ announced start)
            ⊎ (in_came is_in_r1_a2 start ≤ out_put is_in_r1_a3 q)
        by (inr answered) = inr (omega (arith, answered, rise))
        by (inl same) =
            inl
            (ap (λ (log : List OnLeg). count_of is_in_r1_a2 (of_kind InServer log)
            + count_of is_in_r2_a2 (of_kind InServer log)) e ∙ same)

    holds_behind : IsOneMore rules acts p q → Holds q
    holds_behind (inl e) = none_came e
    holds_behind (inr one) = one_came (one_more_of p q one.0 one.1 one.2)

-- ---- a moment

module _ (numbers : Numbers)
    (round : (reader : ℕ → ℕ) (moves : Moves) → IsJoined numbers reader moves
    → GoRound (client_behind numbers moves).passage (server_behind numbers moves).passage)
    (answers : (moves : List EndMove) → answering.AreAnswered (passed numbers moves))
    (reader : ℕ → ℕ) (moves : Moves) (moment : IsMoment numbers reader moves) where
  -- at most one announcement has no answer
  abbrev IsLate : EndPassage Server → Type 0
  IsLate s = announced s.passage ≤ taken_in s.passage + 1

  late : (front later : List EndMove) → moves.server ≡ front ++ later
      → IsLate (all_end_moved rules acts (end_started (first numbers.window)) front)
  late front later e =
      let past = moment.server_past front later e in
      let then = past.0 in
      let ins = (round then.reader_then then.moves_then then.then_joined).ins in
      let a = ins.a2_behind_a1 in
      let b = ins.a1_behind_a4 in
      let c = ins.a4_behind_a3 in
      subst (λ (so : List EndMove).
      IsLate (all_end_moved rules acts (end_started (first numbers.window)) so)) past.1
      (omega (arith, a, b, c))

  module _ (start : Passage Server) where
    next : (front : List EndMove) (move : EndMove) (later : List EndMove)
        → moves.server ≡ front ++ move ∷ later → Holds start (passed numbers front)
        → Holds start (passed numbers (front ++ move ∷ []))
    next front move later e h =
        let begin : EndPassage Server = end_started (first numbers.window) in
        let here : EndPassage Server = all_end_moved rules acts begin front in
        let more = behind_all rules acts begin front move in
        let one = late (front ++ move ∷ []) later
        (e ∙ sym (append_assoc front (move ∷ []) later)) in
        subst (λ (s : EndPassage Server). Holds start s.passage) (sym more)
        (holds_behind start here.passage (end_moved rules acts here move).passage (answers front)
        (subst IsLate more one)
        (put_stays rules acts is_in_r1_a3 OutServer (out_put is_in_r1_a3 here.passage) here move
        (omega arith))
        h (one_more rules acts here move))

    from : (front later : List EndMove) → moves.server ≡ front ++ later
        → Holds start (passed numbers front) → Holds start (passed numbers moves.server)
    from front [] e h =
        subst (λ (so : List EndMove). Holds start (passed numbers so))
        (sym (e ∙ append-nil front)) h
    from front (move ∷ later) e h =
        from (front ++ move ∷ []) later (e ∙ sym (append_assoc front (move ∷ []) later))
        (next front move later e h)

  pub are_answered : AreAnswered numbers moves.server
  are_answered front later e enough =
      let start = passed numbers front in
      let h = from start front later e (record { came = omega arith; either = inl refl }) in
      by h h.either
    where
      by : Holds (passed numbers front) (passed numbers moves.server)
          → (announced (passed numbers moves.server) ≡ announced (passed numbers front))
          ⊎ (in_came is_in_r1_a2 (passed numbers front)
          ≤ out_put is_in_r1_a3 (passed numbers moves.server))
          → in_came is_in_r1_a2 (passed numbers front)
          ≤ out_put is_in_r1_a3 (passed numbers moves.server)
      by h (inl same) =
          all_answered (passed numbers front) (passed numbers moves.server)
          (answers moves.server) h same enough
      by h (inr answered) = answered
