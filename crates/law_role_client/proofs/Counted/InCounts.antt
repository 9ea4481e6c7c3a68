-- a client replaces its IN channels one by one
use Rattle.law_order.proofs.Vocabulary.{◌≡◌, ℕ, ◌+◌, ◌≤◌, Bool, true, false, true≢false, List, [], ◌∷◌, ◌++◌, arith, refl, sym, ap, ◌∙◌, subst}
use Rattle.rh_client.specs.declared.replacement.InStage.TheVariants as in_stage
use Rattle.rh_client.specs.declared.replacement.OutStage.TheVariants as out_stage
use Rattle.law_moves.proofs.Vocabulary.{ClientConfig, ClientOut, ClientIn, OnLeg, Passage, EndMove, end_started, all_end_moved, AreAllowedAtEnd}
use Rattle.law_role_client.proofs.Vocabulary.{Replacement, NoneUnderWay, In, Out, ClientRole, first, is_put, acts, rules, is_in_r1_a1, is_in_a4, is_in_r1_a5, total, once_if, in_asked, in_answered, in_handed_over, InIsAt, ReplacesIns}
use Rattle.law_role_client.proofs.ClientLogs.{of_kind}
use Rattle.law_role_client.proofs.Counted.Allowed.{allowed_moves_keep}
use Rattle.law_role_client.proofs.Counted.Standing.{Stands, passes, stands_none, stands_stays, stands_next, stands_on, total_stays, total_rises, once_at_most}
use Rattle.law_role_client.proofs.Counted.Views.{View, Way, way_of, Free, InIsAsked, InIsAnswered, OutIsAsked, OutIsAnswered, OutIsSwitched, OutIsFinished, is_in_way, Marks, EventsKeep}
use Rattle.law_role_client.proofs.Counted.Moves.{client_keeps}
use Rattle.law_role_client.proofs.Counted.Replacements as keeps

-- the counts at each way
abbrev Asked : ℕ → ℕ → Bool → Way → ℕ → ℕ → ℕ → Type 0
Asked writing successor asked InIsAsked a1 a4 a5 =
    (a4 ≡ a5) × (a1 ≡ a5 + once_if asked) × (successor ≡ writing + 1)
Asked writing successor asked InIsAnswered a1 a4 a5 =
    (a4 ≡ a5 + 1) × (a1 ≡ a5 + 1) × (successor ≡ writing + 1) × (asked ≡ true)
Asked writing successor asked Free a1 a4 a5 = (a4 ≡ a5) × (a1 ≡ a5)
Asked writing successor asked OutIsAsked a1 a4 a5 = (a4 ≡ a5) × (a1 ≡ a5)
Asked writing successor asked OutIsAnswered a1 a4 a5 = (a4 ≡ a5) × (a1 ≡ a5)
Asked writing successor asked OutIsSwitched a1 a4 a5 = (a4 ≡ a5) × (a1 ≡ a5)
Asked writing successor asked OutIsFinished a1 a4 a5 = (a4 ≡ a5) × (a1 ≡ a5)

record Counts (writing successor : ℕ) (asked : Bool) (way : Way) (came put : List OnLeg)
    : Type 0 where
  a1 : ℕ
  a4 : ℕ
  a5 : ℕ
  number : writing ≡ a5 + 1
  at : Asked writing successor asked way a1 a4 a5
  asks : Stands is_in_r1_a1 ClientIn 2 a1 put
  answers : total is_in_a4 ClientOut came ≡ a4
  hands : Stands is_in_r1_a5 ClientIn 1 a5 put

abbrev Holds : View → List OnLeg → List OnLeg → Type 0
Holds v came put = Counts v.writing v.in_successor v.in_asked v.way came put

-- other messages
more_came : (w n : ℕ) (b : Bool) (way : Way) (came put : List OnLeg) (one : OnLeg)
    → passes is_in_a4 one.1 ≡ false → Counts w n b way came put
    → Counts w n b way (came ++ one ∷ []) put
more_came w n b way came put one other h = record {
  a1 = h.a1;
  a4 = h.a4;
  a5 = h.a5;
  number = h.number;
  at = h.at;
  asks = h.asks;
  answers = total_stays is_in_a4 ClientOut h.a4 came one other h.answers;
  hands = h.hands;
}

more_put : (w n : ℕ) (b : Bool) (way : Way) (came put : List OnLeg) (one : OnLeg)
    → passes is_in_r1_a1 one.1 ≡ false → passes is_in_r1_a5 one.1 ≡ false
    → Counts w n b way came put → Counts w n b way came (put ++ one ∷ [])
more_put w n b way came put one no_a1 no_a5 h = record {
  a1 = h.a1;
  a4 = h.a4;
  a5 = h.a5;
  number = h.number;
  at = h.at;
  asks = stands_stays is_in_r1_a1 ClientIn 2 h.a1 put one no_a1 h.asks;
  answers = h.answers;
  hands = stands_stays is_in_r1_a5 ClientIn 1 h.a5 put one no_a5 h.hands;
}

-- on another way, with another successor
turned : (w n m : ℕ) (b c : Bool) (way other : Way) (came put : List OnLeg)
    → ((a1 a4 a5 : ℕ) → Asked w n b way a1 a4 a5 → Asked w m c other a1 a4 a5)
    → Counts w n b way came put → Counts w m c other came put
turned w n m b c way other came put so h = record {
  a1 = h.a1;
  a4 = h.a4;
  a5 = h.a5;
  number = h.number;
  at = so h.a1 h.a4 h.a5 h.at;
  asks = h.asks;
  answers = h.answers;
  hands = h.hands;
}

asks : (w n : ℕ) (way : Way) (came put : List OnLeg) (one : OnLeg)
    → passes is_in_r1_a1 one.1 ≡ true → passes is_in_r1_a5 one.1 ≡ false
    → one.0.kind ≡ ClientIn → one.0.number ≡ n → is_in_way way ≡ true
    → Counts w n false way came put → Counts w n true way came (put ++ one ∷ [])
asks w n InIsAsked came put one is other k on at h =
    let number = h.number in
    let before = h.at.1 in
    let next = h.at.2 in
    record {
      a1 = h.a1 + 1;
      a4 = h.a4;
      a5 = h.a5;
      number = h.number;
      at = (h.at.0, omega (arith, before), h.at.2);
      asks =
          stands_next is_in_r1_a1 ClientIn 2 h.a1 put one is (of_kind ClientIn one.0 k)
          (omega (arith, on, number, before, next)) h.asks;
      answers = h.answers;
      hands = stands_stays is_in_r1_a5 ClientIn 1 h.a5 put one other h.hands;
    }
asks w n InIsAnswered came put one is other k on at h = absurd (true≢false (sym h.at.3))
asks w n Free came put one is other k on at h = absurd (cc)
asks w n OutIsAsked came put one is other k on at h = absurd (cc)
asks w n OutIsAnswered came put one is other k on at h = absurd (cc)
asks w n OutIsSwitched came put one is other k on at h = absurd (cc)
asks w n OutIsFinished came put one is other k on at h = absurd (cc)

answers : (w n : ℕ) (b : Bool) (came put : List OnLeg) (one : OnLeg)
    → passes is_in_a4 one.1 ≡ true → one.0.kind ≡ ClientOut → b ≡ true
    → Counts w n b InIsAsked came put → Counts w n b InIsAnswered (came ++ one ∷ []) put
answers w n b came put one is k put_there h =
    let before = h.at.0 in
    let asked : h.a1 ≡ h.a5 + 1 =
    subst (λ (x : Bool). h.a1 ≡ h.a5 + once_if x) put_there h.at.1 in
    record {
      a1 = h.a1;
      a4 = h.a4 + 1;
      a5 = h.a5;
      number = h.number;
      at = (omega (arith, before), asked, h.at.2, put_there);
      asks = h.asks;
      answers =
          total_rises is_in_a4 ClientOut h.a4 came one is (of_kind ClientOut one.0 k) h.answers;
      hands = h.hands;
    }

hands_over : (w n : ℕ) (b : Bool) (came put : List OnLeg) (one : OnLeg)
    → passes is_in_r1_a1 one.1 ≡ false → passes is_in_r1_a5 one.1 ≡ true
    → one.0.kind ≡ ClientIn → one.0.number ≡ w
    → Counts w n b InIsAnswered came put → Counts n 0 false Free came (put ++ one ∷ [])
hands_over w n b came put one other is k on h =
    let number = h.number in
    let next = h.at.2 in
    record {
      a1 = h.a1;
      a4 = h.a4;
      a5 = h.a5 + 1;
      number = omega (arith, number, next);
      at = (h.at.0, h.at.1);
      asks = stands_stays is_in_r1_a1 ClientIn 2 h.a1 put one other h.asks;
      answers = h.answers;
      hands =
          stands_next is_in_r1_a5 ClientIn 1 h.a5 put one is (of_kind ClientIn one.0 k)
          (omega (arith, on, number)) h.hands;
    }

-- other messages, on a way that stays or is turned to another one
comes : (v : View) (came put : List OnLeg) (one : OnLeg) → passes is_in_a4 one.1 ≡ false
    → Holds v came put → Holds v (came ++ one ∷ []) put
comes v = more_came v.writing v.in_successor v.in_asked v.way

goes : (v : View) (came put : List OnLeg) (one : OnLeg) → passes is_in_r1_a1 one.1 ≡ false
    → passes is_in_r1_a5 one.1 ≡ false → Holds v came put → Holds v came (put ++ one ∷ [])
goes v = more_put v.writing v.in_successor v.in_asked v.way

abbrev turns : (v : View) (way other : Way) (came put : List OnLeg)
    → ((a1 a4 a5 : ℕ) → Asked v.writing v.in_successor v.in_asked way a1 a4 a5
    → Asked v.writing v.in_successor v.in_asked other a1 a4 a5)
    → Holds (record v { way = way }) came put → Holds (record v { way = other }) came put
turns v way other came put =
    turned v.writing v.in_successor v.in_successor v.in_asked v.in_asked way other came put

ins : EventsKeep Holds
ins = record {
  comes = λ v came put one q h. comes v came put one (ap (λ (m : Marks). m.answers_in) q) h;
  goes = λ v came put one q o h.
      goes v came put one (ap (λ (m : Marks). m.asks_in) q) (ap (λ (m : Marks). m.hands_over) q) h;
  fills = λ v line came put past h. h;
  takes = λ v came put h. h;
  acks = λ v which ack came put one q is h.
      goes v came put one (ap (λ (m : Marks). m.asks_in) q) (ap (λ (m : Marks). m.hands_over) q) h;
  opens = λ v came put one q k o h.
      comes v came put one (ap (λ (m : Marks). m.answers_in) q) h;
  closes = λ v came put o h. h;
  ends = λ v came put e h. h;
  ups_writing = λ v cookie came put down h. h;
  ups_in = λ v cookie came put h. h;
  ups_current = λ v cookie came put down h. h;
  ups_out = λ v cookie came put h. h;
  begins_writing = λ v came put one q greets of is k at h.
      goes v came put one (ap (λ (m : Marks). m.asks_in) q) (ap (λ (m : Marks). m.hands_over) q) h;
  begins_current = λ v came put one q greets of is k at h.
      goes v came put one (ap (λ (m : Marks). m.asks_in) q) (ap (λ (m : Marks). m.hands_over) q) h;
  wants_in = λ v came put o l h. h;
  wants_out = λ v came put one q k o w l h.
      comes v came put one (ap (λ (m : Marks). m.answers_in) q) h;
  begins_in = λ v came put w l h.
      turned v.writing v.in_successor (v.writing + 1) v.in_asked false Free InIsAsked came put
      (λ a1 a4 a5 at. let same = at.1 in (at.0, omega (arith, same), refl)) h;
  begins_out = λ v came put w l h. turns v Free OutIsAsked came put (λ a1 a4 a5 at. at) h;
  drops_in = λ v came put w l h. h;
  drops_out = λ v came put w l h. h;
  asks_in = λ v came put one q is k on at h.
      asks v.writing v.in_successor v.way came put one (ap (λ (m : Marks). m.asks_in) q)
      (ap (λ (m : Marks). m.hands_over) q) k on at h;
  answers_in = λ v came put one q k asked h.
      answers v.writing v.in_successor v.in_asked came put one
      (ap (λ (m : Marks). m.answers_in) q) k asked h;
  hands_over = λ v w e came put one q is k on h.
      hands_over v.writing v.in_successor v.in_asked came put one
      (ap (λ (m : Marks). m.asks_in) q) (ap (λ (m : Marks). m.hands_over) q) k on h;
  asks_out = λ v window came put one q is k on at h.
      goes v came put one (ap (λ (m : Marks). m.asks_in) q) (ap (λ (m : Marks). m.hands_over) q) h;
  answers_out = λ v came put one q k on asked h.
      comes (record v { way = OutIsAnswered }) came put one
      (ap (λ (m : Marks). m.answers_in) q)
      (turns v OutIsAsked OutIsAnswered came put (λ a1 a4 a5 at. at) h);
  switches = λ v came put one q is k h.
      goes (record v { way = OutIsSwitched }) came put one (ap (λ (m : Marks). m.asks_in) q)
      (ap (λ (m : Marks). m.hands_over) q)
      (turns v OutIsAnswered OutIsSwitched came put (λ a1 a4 a5 at. at) h);
  finishes = λ v came put one q k on h.
      comes (record v { way = OutIsFinished }) came put one
      (ap (λ (m : Marks). m.answers_in) q)
      (turns v OutIsSwitched OutIsFinished came put (λ a1 a4 a5 at. at) h);
  succeeds = λ v came put h. turns v OutIsFinished Free came put (λ a1 a4 a5 at. at) h;
}

-- ---- the law

all_same : (a1 a4 a5 : ℕ) → (a4 ≡ a5) × (a1 ≡ a5) → (a5 ≤ a4) × (a4 ≤ a1) × (a1 ≤ a4 + 1)
all_same a1 a4 a5 at =
    let same = at.0 in
    let asked = at.1 in
    (omega (arith, same), omega (arith, same, asked), omega (arith, same, asked))

in_between : (w n : ℕ) (b : Bool) (way : Way) (a1 a4 a5 : ℕ) → Asked w n b way a1 a4 a5
    → (a5 ≤ a4) × (a4 ≤ a1) × (a1 ≤ a4 + 1)
in_between w n b InIsAsked a1 a4 a5 at =
    let same = at.0 in
    let asked = at.1 in
    let most = once_at_most b in
    (omega (arith, same), omega (arith, same, asked), omega (arith, same, asked, most))
in_between w n b InIsAnswered a1 a4 a5 at =
    let same = at.0 in
    let asked = at.1 in
    (omega (arith, same), omega (arith, same, asked), omega (arith, same, asked))
in_between w n b Free a1 a4 a5 at = all_same a1 a4 a5 at
in_between w n b OutIsAsked a1 a4 a5 at = all_same a1 a4 a5 at
in_between w n b OutIsAnswered a1 a4 a5 at = all_same a1 a4 a5 at
in_between w n b OutIsSwitched a1 a4 a5 at = all_same a1 a4 a5 at
in_between w n b OutIsFinished a1 a4 a5 at = all_same a1 a4 a5 at

is_at : (p : Passage ClientRole) (r : Replacement)
    → Counts p.role.writing.number p.role.in_successor.number
    (is_put p.role.in_successor.opening) (way_of r) p.came p.put
    → InIsAt p r
is_at p r h = by r h.at
  where
    asked : in_asked p ≡ h.a1
    asked = h.asks.all

    handed : in_handed_over p ≡ h.a5
    handed = h.hands.all

    same : (h.a4 ≡ h.a5) × (h.a1 ≡ h.a5)
        → (in_answered p ≡ in_handed_over p) × (in_asked p ≡ in_handed_over p)
    same at = (h.answers ∙ at.0 ∙ sym handed, asked ∙ at.1 ∙ sym handed)

    by : (x : Replacement)
        → Asked p.role.writing.number p.role.in_successor.number
        (is_put p.role.in_successor.opening) (way_of x) h.a1 h.a4 h.a5
        → InIsAt p x
    by NoneUnderWay at = same at
    by (In in_stage.Asked w) at = (
      h.answers ∙ at.0 ∙ sym handed,
      asked ∙ at.1 ∙ ap (λ (n : ℕ). n + once_if (is_put p.role.in_successor.opening)) (sym handed),
      at.2,
    )
    by (In in_stage.Answered w) at = (
      h.answers ∙ at.0 ∙ ap (λ (n : ℕ). n + 1) (sym handed),
      asked ∙ at.1 ∙ ap (λ (n : ℕ). n + 1) (sym handed),
      at.2,
    )
    by (Out out_stage.Asked w) at = same at
    by (Out out_stage.Answered w) at = same at
    by (Out out_stage.Switched w) at = same at
    by (Out out_stage.Finished w) at = same at

counted : (p : Passage ClientRole)
    → Counts p.role.writing.number p.role.in_successor.number
    (is_put p.role.in_successor.opening) (way_of p.role.replacement) p.came p.put
    → ReplacesIns p
counted p h =
    let between = in_between p.role.writing.number p.role.in_successor.number
    (is_put p.role.in_successor.opening) (way_of p.role.replacement) h.a1 h.a4 h.a5 h.at in
    let low = between.0 in
    let middle = between.1 in
    let high = between.2 in
    let asked : in_asked p ≡ h.a1 = h.asks.all in
    let answered : in_answered p ≡ h.a4 = h.answers in
    let handed : in_handed_over p ≡ h.a5 = h.hands.all in
    record {
      writing = h.number ∙ ap (λ (n : ℕ). n + 1) (sym handed);
      at = is_at p p.role.replacement h;
      answered = omega (arith, low, answered, handed);
      asked = omega (arith, middle, asked, answered);
      one = omega (arith, high, asked, answered);
      asks_on = stands_on is_in_r1_a1 ClientIn 2 h.a1 p.put h.asks;
      hands_over_on = stands_on is_in_r1_a5 ClientIn 1 h.a5 p.put h.hands;
    }

pub replaces_ins : (config : ClientConfig) (moves : List EndMove)
    → AreAllowedAtEnd rules acts (end_started (first config)) moves
    → ReplacesIns (all_end_moved rules acts (end_started (first config)) moves).passage
replaces_ins config moves allowed =
    counted (all_end_moved rules acts (end_started (first config)) moves).passage
    (allowed_moves_keep rules acts (keeps.Holds Holds ins) (client_keeps Holds ins)
    (end_started (first config)) moves allowed
    (record {
      a1 = 0;
      a4 = 0;
      a5 = 0;
      number = refl;
      at = (refl, refl);
      asks = stands_none is_in_r1_a1 ClientIn 2;
      answers = refl;
      hands = stands_none is_in_r1_a5 ClientIn 1;
    }))
