-- a client replaces its OUT channels one by one
use Rattle.law_order.proofs.Vocabulary.{◌≡◌, ℕ, ◌+◌, ◌≤◌, Bool, true, false, true≢false, List, [], ◌∷◌, ◌++◌, arith, refl, sym, ap, subst}
use Rattle.rh_client.specs.declared.replacement.InStage.TheVariants as in_stage
use Rattle.rh_client.specs.declared.replacement.OutStage.TheVariants as out_stage
use Rattle.law_moves.proofs.Vocabulary.{ClientConfig, ClientOut, ClientIn, OnLeg, Passage, EndMove, end_started, all_end_moved, AreAllowedAtEnd}
use Rattle.law_role_client.proofs.Vocabulary.{Replacement, NoneUnderWay, In, Out, ClientRole, first, is_asked, acts, rules, is_out_r1_a3, is_out_r1_a6, is_out_r1_a7, is_out_r1_a10, total, once_if, OutStands, OutIsAt, ReplacesOuts}
use Rattle.law_role_client.proofs.ClientLogs.{of_kind}
use Rattle.law_role_client.proofs.Counted.Allowed.{allowed_moves_keep}
use Rattle.law_role_client.proofs.Counted.Standing.{Stands, passes, stands_none, stands_stays, stands_next, stands_on, total_stays, total_rises, once_at_most}
use Rattle.law_role_client.proofs.Counted.Views.{View, Way, way_of, Free, InIsAsked, InIsAnswered, OutIsAsked, OutIsAnswered, OutIsSwitched, OutIsFinished, is_out_way, Marks, EventsKeep}
use Rattle.law_role_client.proofs.Counted.Moves.{client_keeps}
use Rattle.law_role_client.proofs.Counted.Replacements as keeps

record At (current more_asked more_answered more_switched more o3 o6 o7 o10 : ℕ) : Type 0 where
  asked : o3 ≡ o10 + more_asked
  answered : o6 ≡ o10 + more_answered
  switched : o7 ≡ o10 + more_switched
  number : current ≡ o10 + more

-- the counts at each way
abbrev Asked : ℕ → ℕ → Bool → Way → ℕ → ℕ → ℕ → ℕ → Type 0
Asked current next asked OutIsAsked o3 o6 o7 o10 =
    At current (once_if asked) 0 0 1 o3 o6 o7 o10 × (next ≡ current + 1)
Asked current next asked OutIsAnswered o3 o6 o7 o10 =
    At current 1 1 0 1 o3 o6 o7 o10 × (next ≡ current + 1) × (asked ≡ true)
Asked current next asked OutIsSwitched o3 o6 o7 o10 =
    At current 1 1 1 1 o3 o6 o7 o10 × (next ≡ current + 1) × (asked ≡ true)
Asked current next asked OutIsFinished o3 o6 o7 o10 =
    At current 0 0 0 0 o3 o6 o7 o10 × (next ≡ current + 1) × (asked ≡ true)
Asked current next asked Free o3 o6 o7 o10 = At current 0 0 0 1 o3 o6 o7 o10
Asked current next asked InIsAsked o3 o6 o7 o10 = At current 0 0 0 1 o3 o6 o7 o10
Asked current next asked InIsAnswered o3 o6 o7 o10 = At current 0 0 0 1 o3 o6 o7 o10

record Counts (current next : ℕ) (asked : Bool) (way : Way) (came put : List OnLeg) : Type 0 where
  o3 : ℕ
  o6 : ℕ
  o7 : ℕ
  o10 : ℕ
  at : Asked current next asked way o3 o6 o7 o10
  asks : Stands is_out_r1_a3 ClientOut 2 o3 put
  answers : Stands is_out_r1_a6 ClientOut 1 o6 came
  switches : total is_out_r1_a7 ClientIn put ≡ o7
  finishes : Stands is_out_r1_a10 ClientOut 1 o10 came

abbrev Holds : View → List OnLeg → List OnLeg → Type 0
Holds v came put = Counts v.current v.out_successor v.out_asked v.way came put

-- other messages
comes : (v : View) (came put : List OnLeg) (one : OnLeg) → passes is_out_r1_a6 one.1 ≡ false
    → passes is_out_r1_a10 one.1 ≡ false → Holds v came put → Holds v (came ++ one ∷ []) put
comes v came put one no_a6 no_a10 h = record {
  o3 = h.o3;
  o6 = h.o6;
  o7 = h.o7;
  o10 = h.o10;
  at = h.at;
  asks = h.asks;
  answers = stands_stays is_out_r1_a6 ClientOut 1 h.o6 came one no_a6 h.answers;
  switches = h.switches;
  finishes = stands_stays is_out_r1_a10 ClientOut 1 h.o10 came one no_a10 h.finishes;
}

goes : (v : View) (came put : List OnLeg) (one : OnLeg) → passes is_out_r1_a3 one.1 ≡ false
    → passes is_out_r1_a7 one.1 ≡ false → Holds v came put → Holds v came (put ++ one ∷ [])
goes v came put one no_a3 no_a7 h = record {
  o3 = h.o3;
  o6 = h.o6;
  o7 = h.o7;
  o10 = h.o10;
  at = h.at;
  asks = stands_stays is_out_r1_a3 ClientOut 2 h.o3 put one no_a3 h.asks;
  answers = h.answers;
  switches = total_stays is_out_r1_a7 ClientIn h.o7 put one no_a7 h.switches;
  finishes = h.finishes;
}

-- on another way, with another successor
turned : (c d n m : ℕ) (a b : Bool) (way other : Way) (came put : List OnLeg)
    → ((o3 o6 o7 o10 : ℕ) → Asked c n a way o3 o6 o7 o10 → Asked d m b other o3 o6 o7 o10)
    → Counts c n a way came put → Counts d m b other came put
turned c d n m a b way other came put so h = record {
  o3 = h.o3;
  o6 = h.o6;
  o7 = h.o7;
  o10 = h.o10;
  at = so h.o3 h.o6 h.o7 h.o10 h.at;
  asks = h.asks;
  answers = h.answers;
  switches = h.switches;
  finishes = h.finishes;
}

turns : (v : View) (way other : Way) (came put : List OnLeg)
    → ((o3 o6 o7 o10 : ℕ) → Asked v.current v.out_successor v.out_asked way o3 o6 o7 o10
    → Asked v.current v.out_successor v.out_asked other o3 o6 o7 o10)
    → Holds (record v { way = way }) came put → Holds (record v { way = other }) came put
turns v way other came put =
    turned v.current v.current v.out_successor v.out_successor v.out_asked v.out_asked way other
    came put

asks : (c n : ℕ) (way : Way) (came put : List OnLeg) (one : OnLeg)
    → passes is_out_r1_a3 one.1 ≡ true → passes is_out_r1_a7 one.1 ≡ false
    → one.0.kind ≡ ClientOut → one.0.number ≡ n → is_out_way way ≡ true
    → Counts c n false way came put → Counts c n true way came (put ++ one ∷ [])
asks c n OutIsAsked came put one is other k on at h =
    let before = h.at.0.asked in
    let number = h.at.0.number in
    let next = h.at.1 in
    record {
      o3 = h.o3 + 1;
      o6 = h.o6;
      o7 = h.o7;
      o10 = h.o10;
      at = (
        record {
          asked = omega (arith, before);
          answered = h.at.0.answered;
          switched = h.at.0.switched;
          number = h.at.0.number;
        },
        h.at.1,
      );
      asks =
          stands_next is_out_r1_a3 ClientOut 2 h.o3 put one is (of_kind ClientOut one.0 k)
          (omega (arith, on, number, before, next)) h.asks;
      answers = h.answers;
      switches = total_stays is_out_r1_a7 ClientIn h.o7 put one other h.switches;
      finishes = h.finishes;
    }
asks c n OutIsAnswered came put one is other k on at h = absurd (true≢false (sym h.at.2))
asks c n OutIsSwitched came put one is other k on at h = absurd (true≢false (sym h.at.2))
asks c n OutIsFinished came put one is other k on at h = absurd (true≢false (sym h.at.2))
asks c n Free came put one is other k on at h = absurd (cc)
asks c n InIsAsked came put one is other k on at h = absurd (cc)
asks c n InIsAnswered came put one is other k on at h = absurd (cc)

answers : (c n : ℕ) (b : Bool) (came put : List OnLeg) (one : OnLeg)
    → passes is_out_r1_a6 one.1 ≡ true → passes is_out_r1_a10 one.1 ≡ false
    → one.0.kind ≡ ClientOut → one.0.number ≡ c → b ≡ true
    → Counts c n b OutIsAsked came put → Counts c n b OutIsAnswered (came ++ one ∷ []) put
answers c n b came put one is other k on put_there h =
    let before = h.at.0.answered in
    let number = h.at.0.number in
    record {
      o3 = h.o3;
      o6 = h.o6 + 1;
      o7 = h.o7;
      o10 = h.o10;
      at = (
        record {
          asked = subst (λ (x : Bool). h.o3 ≡ h.o10 + once_if x) put_there h.at.0.asked;
          answered = omega (arith, before);
          switched = h.at.0.switched;
          number = h.at.0.number;
        },
        h.at.1,
        put_there,
      );
      asks = h.asks;
      answers =
          stands_next is_out_r1_a6 ClientOut 1 h.o6 came one is (of_kind ClientOut one.0 k)
          (omega (arith, on, number, before)) h.answers;
      switches = h.switches;
      finishes = stands_stays is_out_r1_a10 ClientOut 1 h.o10 came one other h.finishes;
    }

switches : (c n : ℕ) (b : Bool) (came put : List OnLeg) (one : OnLeg)
    → passes is_out_r1_a3 one.1 ≡ false → passes is_out_r1_a7 one.1 ≡ true
    → one.0.kind ≡ ClientIn
    → Counts c n b OutIsAnswered came put → Counts c n b OutIsSwitched came (put ++ one ∷ [])
switches c n b came put one other is k h =
    let before = h.at.0.switched in
    record {
      o3 = h.o3;
      o6 = h.o6;
      o7 = h.o7 + 1;
      o10 = h.o10;
      at = (
        record {
          asked = h.at.0.asked;
          answered = h.at.0.answered;
          switched = omega (arith, before);
          number = h.at.0.number;
        },
        h.at.1,
        h.at.2,
      );
      asks = stands_stays is_out_r1_a3 ClientOut 2 h.o3 put one other h.asks;
      answers = h.answers;
      switches =
          total_rises is_out_r1_a7 ClientIn h.o7 put one is (of_kind ClientIn one.0 k) h.switches;
      finishes = h.finishes;
    }

finishes : (c n : ℕ) (b : Bool) (came put : List OnLeg) (one : OnLeg)
    → passes is_out_r1_a6 one.1 ≡ false → passes is_out_r1_a10 one.1 ≡ true
    → one.0.kind ≡ ClientOut → one.0.number ≡ c
    → Counts c n b OutIsSwitched came put → Counts c n b OutIsFinished (came ++ one ∷ []) put
finishes c n b came put one other is k on h =
    let asked = h.at.0.asked in
    let answered = h.at.0.answered in
    let switched = h.at.0.switched in
    let number = h.at.0.number in
    record {
      o3 = h.o3;
      o6 = h.o6;
      o7 = h.o7;
      o10 = h.o10 + 1;
      at = (
        record {
          asked = omega (arith, asked);
          answered = omega (arith, answered);
          switched = omega (arith, switched);
          number = omega (arith, number);
        },
        h.at.1,
        h.at.2,
      );
      asks = h.asks;
      answers = stands_stays is_out_r1_a6 ClientOut 1 h.o6 came one other h.answers;
      switches = h.switches;
      finishes =
          stands_next is_out_r1_a10 ClientOut 1 h.o10 came one is (of_kind ClientOut one.0 k)
          (omega (arith, on, number)) h.finishes;
    }

succeeds : (c n : ℕ) (b : Bool) (o3 o6 o7 o10 : ℕ) → Asked c n b OutIsFinished o3 o6 o7 o10
    → Asked n 0 false Free o3 o6 o7 o10
succeeds c n b o3 o6 o7 o10 at =
    let number = at.0.number in
    let next = at.1 in
    record {
      asked = at.0.asked;
      answered = at.0.answered;
      switched = at.0.switched;
      number = omega (arith, number, next);
    }

outs : EventsKeep Holds
outs = record {
  comes = λ v came put one q h.
      comes v came put one (ap (λ (m : Marks). m.answers_out) q) (ap (λ (m : Marks). m.finishes) q)
      h;
  goes = λ v came put one q o h.
      goes v came put one (ap (λ (m : Marks). m.asks_out) q) (ap (λ (m : Marks). m.switches) q) h;
  fills = λ v line came put past h. h;
  takes = λ v came put h. h;
  acks = λ v which ack came put one q is h.
      goes v came put one (ap (λ (m : Marks). m.asks_out) q) (ap (λ (m : Marks). m.switches) q) h;
  opens = λ v came put one q k o h.
      comes v came put one (ap (λ (m : Marks). m.answers_out) q) (ap (λ (m : Marks). m.finishes) q)
      h;
  closes = λ v came put o h. h;
  ends = λ v came put e h. h;
  ups_writing = λ v cookie came put down h. h;
  ups_in = λ v cookie came put h. h;
  ups_current = λ v cookie came put down h. h;
  ups_out = λ v cookie came put h. h;
  begins_writing = λ v came put one q greets of is k at h.
      goes v came put one (ap (λ (m : Marks). m.asks_out) q) (ap (λ (m : Marks). m.switches) q) h;
  begins_current = λ v came put one q greets of is k at h.
      goes v came put one (ap (λ (m : Marks). m.asks_out) q) (ap (λ (m : Marks). m.switches) q) h;
  wants_in = λ v came put o l h. h;
  wants_out = λ v came put one q k o w l h.
      comes v came put one (ap (λ (m : Marks). m.answers_out) q) (ap (λ (m : Marks). m.finishes) q)
      h;
  begins_in = λ v came put w l h.
      turns v Free InIsAsked came put (λ o3 o6 o7 o10 at. at) h;
  begins_out = λ v came put w l h.
      turned v.current v.current v.out_successor (v.current + 1) v.out_asked false Free OutIsAsked
      came put (λ o3 o6 o7 o10 at. (at, refl)) h;
  drops_in = λ v came put w l h. h;
  drops_out = λ v came put w l h. h;
  asks_in = λ v came put one q is k on at h.
      goes v came put one (ap (λ (m : Marks). m.asks_out) q) (ap (λ (m : Marks). m.switches) q) h;
  answers_in = λ v came put one q k asked h.
      comes (record v { way = InIsAnswered }) came put one
      (ap (λ (m : Marks). m.answers_out) q) (ap (λ (m : Marks). m.finishes) q)
      (turns v InIsAsked InIsAnswered came put (λ o3 o6 o7 o10 at. at) h);
  hands_over = λ v w e came put one q is k on h.
      goes (record v { way = Free }) came put one
      (ap (λ (m : Marks). m.asks_out) q) (ap (λ (m : Marks). m.switches) q)
      (turns v InIsAnswered Free came put (λ o3 o6 o7 o10 at. at) h);
  asks_out = λ v window came put one q is k on at h.
      asks v.current v.out_successor v.way came put one (ap (λ (m : Marks). m.asks_out) q)
      (ap (λ (m : Marks). m.switches) q) k on at h;
  answers_out = λ v came put one q k on asked h.
      answers v.current v.out_successor v.out_asked came put one
      (ap (λ (m : Marks). m.answers_out) q) (ap (λ (m : Marks). m.finishes) q) k on asked h;
  switches = λ v came put one q is k h.
      switches v.current v.out_successor v.out_asked came put one
      (ap (λ (m : Marks). m.asks_out) q) (ap (λ (m : Marks). m.switches) q) k h;
  finishes = λ v came put one q k on h.
      finishes v.current v.out_successor v.out_asked came put one
      (ap (λ (m : Marks). m.answers_out) q) (ap (λ (m : Marks). m.finishes) q) k on h;
  succeeds = λ v came put h.
      turned v.current v.out_successor v.out_successor 0 v.out_asked false OutIsFinished Free came
      put (succeeds v.current v.out_successor v.out_asked) h;
}

-- ---- the law

abbrev Between : ℕ → ℕ → ℕ → ℕ → Type 0
Between o3 o6 o7 o10 = (o10 ≤ o7) × (o7 ≤ o6) × (o6 ≤ o3) × (o3 ≤ o10 + 1)

between_at : (c x y z u o3 o6 o7 o10 : ℕ) → z ≤ y → y ≤ x → x ≤ 1
    → At c x y z u o3 o6 o7 o10 → Between o3 o6 o7 o10
between_at c x y z u o3 o6 o7 o10 low middle high at =
    let asked = at.asked in
    let answered = at.answered in
    let switched = at.switched in (
      omega (arith, switched),
      omega (arith, switched, answered, low),
      omega (arith, answered, asked, middle),
      omega (arith, asked, high),
    )

out_between : (c n : ℕ) (b : Bool) (way : Way) (o3 o6 o7 o10 : ℕ)
    → Asked c n b way o3 o6 o7 o10 → Between o3 o6 o7 o10
out_between c n b OutIsAsked o3 o6 o7 o10 at =
    between_at c (once_if b) 0 0 1 o3 o6 o7 o10 (omega arith) (omega arith) (once_at_most b) at.0
out_between c n b OutIsAnswered o3 o6 o7 o10 at =
    between_at c 1 1 0 1 o3 o6 o7 o10 (omega arith) (omega arith) (omega arith) at.0
out_between c n b OutIsSwitched o3 o6 o7 o10 at =
    between_at c 1 1 1 1 o3 o6 o7 o10 (omega arith) (omega arith) (omega arith) at.0
out_between c n b OutIsFinished o3 o6 o7 o10 at =
    between_at c 0 0 0 0 o3 o6 o7 o10 (omega arith) (omega arith) (omega arith) at.0
out_between c n b Free o3 o6 o7 o10 at =
    between_at c 0 0 0 1 o3 o6 o7 o10 (omega arith) (omega arith) (omega arith) at
out_between c n b InIsAsked o3 o6 o7 o10 at =
    between_at c 0 0 0 1 o3 o6 o7 o10 (omega arith) (omega arith) (omega arith) at
out_between c n b InIsAnswered o3 o6 o7 o10 at =
    between_at c 0 0 0 1 o3 o6 o7 o10 (omega arith) (omega arith) (omega arith) at

module _ (p : Passage ClientRole)
    (h : Counts p.role.current.number p.role.out_successor.number
    (is_asked p.role.out_successor.opening) (way_of p.role.replacement) p.came p.put) where
  stands : (x y z u : ℕ) → At p.role.current.number x y z u h.o3 h.o6 h.o7 h.o10
      → OutStands p x y z u
  stands x y z u at =
      let o3 = h.asks.all in
      let o6 = h.answers.all in
      let o7 = h.switches in
      let o10 = h.finishes.all in
      let asked = at.asked in
      let answered = at.answered in
      let switched = at.switched in
      let number = at.number in
      record {
        asked = omega (arith, o3, o10, asked);
        answered = omega (arith, o6, o10, answered);
        switched = omega (arith, o7, o10, switched);
        current = omega (arith, o10, number);
      }

  is_at : (r : Replacement)
      → Asked p.role.current.number p.role.out_successor.number
      (is_asked p.role.out_successor.opening) (way_of r) h.o3 h.o6 h.o7 h.o10
      → OutIsAt p r
  is_at NoneUnderWay at = stands 0 0 0 1 at
  is_at (In in_stage.Asked w) at = stands 0 0 0 1 at
  is_at (In in_stage.Answered w) at = stands 0 0 0 1 at
  is_at (Out out_stage.Asked w) at =
      (stands (once_if (is_asked p.role.out_successor.opening)) 0 0 1 at.0, at.1)
  is_at (Out out_stage.Answered w) at = (stands 1 1 0 1 at.0, at.1)
  is_at (Out out_stage.Switched w) at = (stands 1 1 1 1 at.0, at.1)
  is_at (Out out_stage.Finished w) at = (stands 0 0 0 0 at.0, at.1)

  counted : ReplacesOuts p
  counted =
      let between =
      out_between p.role.current.number p.role.out_successor.number
      (is_asked p.role.out_successor.opening) (way_of p.role.replacement) h.o3 h.o6 h.o7 h.o10
      h.at in
      let first = between.0 in
      let second = between.1 in
      let third = between.2 in
      let last = between.3 in
      let o3 = h.asks.all in
      let o6 = h.answers.all in
      let o7 = h.switches in
      let o10 = h.finishes.all in
      record {
        at = is_at p.role.replacement h.at;
        switched = omega (arith, first, o7, o10);
        answered = omega (arith, second, o6, o7);
        asked = omega (arith, third, o3, o6);
        one = omega (arith, last, o3, o10);
        asks_on = stands_on is_out_r1_a3 ClientOut 2 h.o3 p.put h.asks;
        answers_on = stands_on is_out_r1_a6 ClientOut 1 h.o6 p.came h.answers;
        finishes_on = stands_on is_out_r1_a10 ClientOut 1 h.o10 p.came h.finishes;
      }

pub replaces_outs : (config : ClientConfig) (moves : List EndMove)
    → AreAllowedAtEnd rules acts (end_started (first config)) moves
    → ReplacesOuts (all_end_moved rules acts (end_started (first config)) moves).passage
replaces_outs config moves allowed =
    counted (all_end_moved rules acts (end_started (first config)) moves).passage
    (allowed_moves_keep rules acts (keeps.Holds Holds outs) (client_keeps Holds outs)
    (end_started (first config)) moves allowed
    (record {
      o3 = 0;
      o6 = 0;
      o7 = 0;
      o10 = 0;
      at = record { asked = refl; answered = refl; switched = refl; number = refl };
      asks = stands_none is_out_r1_a3 ClientOut 2;
      answers = stands_none is_out_r1_a6 ClientOut 1;
      switches = refl;
      finishes = stands_none is_out_r1_a10 ClientOut 1;
    }))
