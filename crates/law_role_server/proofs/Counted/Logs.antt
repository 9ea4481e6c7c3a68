-- a message more, and how often packets passed
use Rattle.law_order.proofs.Vocabulary.{◌≡◌, ℕ, suc, ◌+◌, ◌≤◌, ◌<◌, ◌==◌, Bool, true, false, true≢false, if◌then◌else◌, List, [], ◌∷◌, ◌++◌, arith, refl, sym, ap, ◌∙◌, subst, nat_tests}
use Rattle.law_moves.proofs.Vocabulary.{same_number, other_number, test_same, test_other, Named, Leg, LegKind, ClientOut, OutServer, ClientIn, InServer, Message, same_leg, is_of, OnLeg, of_leg, count_of, of_kind}
use Rattle.law_moves.proofs.Lemmas.{count_append, leg_more, kind_more}
use Rattle.law_role_server.proofs.Vocabulary.{often, often_at, leg_at, IsOnEachFrom}

-- on the legs of a kind, and on one of them
pub often_more : (test : Named → Bool) (kind : LegKind) (log : List OnLeg) (one : OnLeg)
    → often test kind (log ++ one ∷ []) ≡ often test kind log + often test kind (one ∷ [])
often_more test kind log one =
    ap (count_of test) (kind_more kind log one)
    ∙ count_append test (of_kind kind log) (of_kind kind (one ∷ []))

pub often_at_more : (test : Named → Bool) (kind : LegKind) (n : ℕ) (log : List OnLeg) (one : OnLeg)
    → often_at test kind n (log ++ one ∷ [])
    ≡ often_at test kind n log + often_at test kind n (one ∷ [])
often_at_more test kind n log one =
    ap (count_of test) (leg_more (leg_at kind n) log one)
    ∙ count_append test (of_leg (leg_at kind n) log) (of_leg (leg_at kind n) (one ∷ []))

of_its_kind : (leg : Leg) (kind : LegKind) (n : ℕ) → same_leg leg (leg_at kind n) ≡ true
    → is_of kind leg ≡ true
of_its_kind leg kind n e = grind (arith, nat_tests, e)

-- a message of a leg is one of its kind
pub at_most_often : (test : Named → Bool) (kind : LegKind) (n : ℕ) (one : OnLeg)
    → often_at test kind n (one ∷ []) ≤ often test kind (one ∷ [])
at_most_often test kind n one =
    by (same_leg one.0 (leg_at kind n)) (is_of kind one.0) (of_its_kind one.0 kind n)
  where
    by : (b c : Bool) → (b ≡ true → c ≡ true)
        → count_of test (if b then one.1 ∷ [] else [])
        ≤ count_of test (if c then one.1 ∷ [] else [])
    by true true so = omega arith
    by true false so = absurd (true≢false (sym (so refl)))
    by false c so = omega arith

-- nor are more on one leg than on all of its kind
pub at_most_in : (test : Named → Bool) (kind : LegKind) (n : ℕ) (log : List OnLeg)
    → often_at test kind n log ≤ often test kind log
at_most_in test kind n [] = omega arith
at_most_in test kind n (one ∷ log) =
    by (same_leg one.0 (leg_at kind n)) (is_of kind one.0) (of_its_kind one.0 kind n)
    (at_most_in test kind n log)
  where
    leg : List Message
    leg = of_leg (leg_at kind n) log

    all : List Message
    all = of_kind kind log

    by : (b c : Bool) → (b ≡ true → c ≡ true) → count_of test leg ≤ count_of test all
        → count_of test (if b then one.1 ∷ leg else leg)
        ≤ count_of test (if c then one.1 ∷ all else all)
    by true true so rest =
        let here : count_of test (one.1 ∷ leg) ≡ count_of test (one.1 ∷ []) + count_of test leg =
        count_append test (one.1 ∷ []) leg in
        let there : count_of test (one.1 ∷ all) ≡ count_of test (one.1 ∷ []) + count_of test all =
        count_append test (one.1 ∷ []) all in omega (arith, here, there, rest)
    by true false so rest = absurd (true≢false (sym (so refl)))
    by false true so rest =
        let there : count_of test (one.1 ∷ all) ≡ count_of test (one.1 ∷ []) + count_of test all =
        count_append test (one.1 ∷ []) all in omega (arith, there, rest)
    by false false so rest = rest

numbered : (kind : LegKind) (k n : ℕ) → same_leg (leg_at kind k) (leg_at kind n) ≡ (k == n)
numbered ClientOut k n = refl
numbered OutServer k n = refl
numbered ClientIn k n = refl
numbered InServer k n = refl

of_kind_itself : (kind : LegKind) (k : ℕ) → is_of kind (leg_at kind k) ≡ true
of_kind_itself ClientOut k = refl
of_kind_itself OutServer k = refl
of_kind_itself ClientIn k = refl
of_kind_itself InServer k = refl

-- a message on leg k, for this leg and for another
at_one : (test : Named → Bool) (kind : LegKind) (k n : ℕ) (m : Message) (b : Bool)
    → (k == n) ≡ b
    → often_at test kind n ((leg_at kind k, m) ∷ []) ≡ count_of test (if b then m ∷ [] else [])
at_one test kind k n m b e =
    ap (λ (c : Bool). count_of test (if c then m ∷ [] else [])) (numbered kind k n ∙ e)

pub at_here : (test : Named → Bool) (kind : LegKind) (k n : ℕ) (m : Message) (log : List OnLeg)
    → k ≡ n → often_at test kind n (log ++ (leg_at kind k, m) ∷ [])
    ≡ often_at test kind n log + count_of test (m ∷ [])
at_here test kind k n m log e =
    let more = often_at_more test kind n log (leg_at kind k, m) in
    let same = at_one test kind k n m true (subst (λ (i : ℕ). k == i ≡ true) e (test_same k)) in
    omega (arith, more, same)

pub at_other : (test : Named → Bool) (kind : LegKind) (k n : ℕ) (m : Message) (log : List OnLeg)
    → (k ≡ n → ⊥)
    → often_at test kind n (log ++ (leg_at kind k, m) ∷ []) ≡ often_at test kind n log
at_other test kind k n m log e =
    let more = often_at_more test kind n log (leg_at kind k, m) in
    let same = at_one test kind k n m false (test_other k n e) in omega (arith, more, same)

-- ---- once on each leg in turn

-- none passed
pub on_none : (first : ℕ) (test : Named → Bool) (kind : LegKind)
    → IsOnEachFrom first test kind []
on_none first test kind = record {
  each = λ n from to. absurd (omega (arith, from, to));
  before = λ n below. refl;
  behind = λ n above. refl;
}

-- what is none of these
pub on_other : (first : ℕ) (test : Named → Bool) (kind : LegKind) (log : List OnLeg) (one : OnLeg)
    → often test kind (one ∷ []) ≡ 0 → IsOnEachFrom first test kind log
    → IsOnEachFrom first test kind (log ++ one ∷ [])
on_other first test kind log one none h = record {
  each = λ n from to.
      let is = h.each n from (omega (arith, to, all, none)) in
      omega (arith, is, often_at_more test kind n log one, less n, none);
  before = λ n below.
      let is = h.before n below in
      omega (arith, is, often_at_more test kind n log one, less n, none);
  behind = λ n above.
      let is = h.behind n (omega (arith, above, all, none)) in
      omega (arith, is, often_at_more test kind n log one, less n, none);
}
  where
    all : often test kind (log ++ one ∷ []) ≡ often test kind log + often test kind (one ∷ [])
    all = often_more test kind log one

    less : (n : ℕ) → often_at test kind n (one ∷ []) ≤ often test kind (one ∷ [])
    less n = at_most_often test kind n one

-- one on the leg that is next
pub on_next : (first k : ℕ) (test : Named → Bool) (kind : LegKind) (log : List OnLeg) (m : Message)
    → count_of test (m ∷ []) ≡ 1 → k ≡ first + often test kind log
    → IsOnEachFrom first test kind log
    → IsOnEachFrom first test kind (log ++ (leg_at kind k, m) ∷ [])
on_next first k test kind log m is next h = record {
  each = λ n from to. by_each n from to (k == n) refl;
  before = λ n below.
      let was = h.before n below in
      let more = other n (λ e. omega (arith, e, next, below)) in omega (arith, was, more);
  behind = λ n above.
      let was = h.behind n (omega (arith, above, all)) in
      let more = other n (λ e. omega (arith, e, next, above, all)) in omega (arith, was, more);
}
  where
    one : OnLeg
    one = (leg_at kind k, m)

    counted : often test kind (one ∷ []) ≡ 1
    counted =
        ap (λ (b : Bool). count_of test (if b then m ∷ [] else [])) (of_kind_itself kind k) ∙ is

    all : often test kind (log ++ one ∷ []) ≡ suc (often test kind log)
    all = let more = often_more test kind log one in omega (arith, more, counted)

    other : (n : ℕ) → (k ≡ n → ⊥)
        → often_at test kind n (log ++ one ∷ []) ≡ often_at test kind n log
    other n differ = at_other test kind k n m log differ

    by_each : (n : ℕ) → first ≤ n → n < first + often test kind (log ++ one ∷ []) → (b : Bool)
        → (k == n) ≡ b → often_at test kind n (log ++ one ∷ []) ≡ 1
    by_each n from to true e =
        let same = same_number k n e in
        let was = h.behind n (omega (arith, same, next)) in
        let more = at_here test kind k n m log same in omega (arith, was, more, is)
    by_each n from to false e =
        let differ = other_number k n e in
        let more = other n differ in
        let was = h.each n from (between n differ to) in omega (arith, was, more)
      where
        between : (n : ℕ) → (k ≡ n → ⊥) → n < first + often test kind (log ++ one ∷ [])
            → n < first + often test kind log
        between n differ to = omega (arith, to, all, next, differ)
