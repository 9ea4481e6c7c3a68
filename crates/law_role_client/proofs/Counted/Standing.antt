-- one more message in a log, and the packets that are counted there
use Rattle.law_order.proofs.Vocabulary.{◌≡◌, ℕ, ◌+◌, ◌≤◌, ◌==◌, ◌&&◌, Bool, true, false, if◌then◌else◌, List, [], ◌∷◌, ◌++◌, arith, refl, sym, ap, ◌∙◌, subst, nat_tests}
use Rattle.law_moves.proofs.Vocabulary.{Named, Leg, LegKind, Message, Text, Pdu, Packet, same_leg, is_of, kind_number, OnLeg, of_leg, count_of, of_kind}
use Rattle.law_moves.proofs.Lemmas.{count_append, leg_more, kind_more}
use Rattle.law_role_client.proofs.Vocabulary.{total, is_among, once_if, StandsOnEach}

-- a message is a packet that passes the test
abbrev pub passes : (Named → Bool) → Message → Bool
passes test (Text bytes) = false
passes test (Pdu pdu) = false
passes test (Packet named) = test named

one_count : (test : Named → Bool) (b : Bool) (m : Message)
    → count_of test (if b then m ∷ [] else []) ≡ once_if (b && passes test m)
one_count test false m = refl
one_count test true (Text bytes) = refl
one_count test true (Pdu pdu) = refl
one_count test true (Packet named) = refl

pub total_more : (test : Named → Bool) (kind : LegKind) (log : List OnLeg) (leg : Leg)
    (m : Message)
    → total test kind (log ++ (leg, m) ∷ [])
    ≡ total test kind log + once_if (is_of kind leg && passes test m)
total_more test kind log leg m =
    ap (count_of test) (kind_more kind log (leg, m))
    ∙ (count_append test (of_kind kind log) (if is_of kind leg then m ∷ [] else [])
    ∙ ap (λ (n : ℕ). total test kind log + n) (one_count test (is_of kind leg) m))

leg_count : (test : Named → Bool) (at : Leg) (log : List OnLeg) (leg : Leg) (m : Message)
    → count_of test (of_leg at (log ++ (leg, m) ∷ []))
    ≡ count_of test (of_leg at log) + once_if (same_leg leg at && passes test m)
leg_count test at log leg m =
    ap (count_of test) (leg_more at log (leg, m))
    ∙ (count_append test (of_leg at log) (if same_leg leg at then m ∷ [] else [])
    ∙ ap (λ (n : ℕ). count_of test (of_leg at log) + n) (one_count test (same_leg leg at) m))

never : (b : Bool) → once_if (b && false) ≡ 0
never true = refl
never false = refl

always : (b : Bool) → once_if (b && true) ≡ once_if b
always true = refl
always false = refl

-- ---- so many are in a log

pub total_stays : (test : Named → Bool) (kind : LegKind) (n : ℕ) (log : List OnLeg)
    (one : OnLeg) → passes test one.1 ≡ false → total test kind log ≡ n
    → total test kind (log ++ one ∷ []) ≡ n
total_stays test kind n log (leg, m) e h =
    let more = total_more test kind log leg m in
    let b = is_of kind leg in
    let none : once_if (b && passes test m) ≡ 0 =
    subst (λ (p : Bool). once_if (b && p) ≡ 0) (sym e) (never b) in
    omega (arith, more, none, h)

pub total_rises : (test : Named → Bool) (kind : LegKind) (n : ℕ) (log : List OnLeg)
    (one : OnLeg) → passes test one.1 ≡ true → is_of kind one.0 ≡ true
    → total test kind log ≡ n → total test kind (log ++ one ∷ []) ≡ n + 1
total_rises test kind n log (leg, m) e k h =
    let more = total_more test kind log leg m in
    let one : once_if (is_of kind leg && passes test m) ≡ 1 =
    subst (λ (p : Bool). once_if (is_of kind leg && p) ≡ 1) (sym e)
    (subst (λ (b : Bool). once_if (b && true) ≡ 1) (sym k) refl) in
    omega (arith, more, one, h)

-- ---- one on each of so many legs

pub record Stands (test : Named → Bool) (kind : LegKind) (first count : ℕ) (log : List OnLeg)
    : Type 0 where
  pub all : total test kind log ≡ count
  pub each : (leg : Leg) → count_of test (of_leg leg log)
      ≡ once_if (is_of kind leg && is_among first count leg.number)

pub stands_stays : (test : Named → Bool) (kind : LegKind) (first count : ℕ) (log : List OnLeg)
    (one : OnLeg) → passes test one.1 ≡ false → Stands test kind first count log
    → Stands test kind first count (log ++ one ∷ [])
stands_stays test kind first count log (leg, m) e h = record {
  all = total_stays test kind count log (leg, m) e h.all;
  each = λ at.
      let more = leg_count test at log leg m in
      let b = same_leg leg at in
      let none : once_if (b && passes test m) ≡ 0 =
      subst (λ (p : Bool). once_if (b && p) ≡ 0) (sym e) (never b) in
      let before = h.each at in
      omega (arith, more, none, before);
}

-- the numbers of kinds, and of legs
next_among : (kind leg at first count n k : ℕ) → (kind == leg) ≡ true → n ≡ first + count
    → once_if (kind == at && is_among first count k) + once_if ((leg == at) && n == k)
    ≡ once_if (kind == at && is_among first (count + 1) k)
next_among kind leg at first count n k e same = grind (arith, nat_tests, e, same)

pub stands_next : (test : Named → Bool) (kind : LegKind) (first count : ℕ) (log : List OnLeg)
    (one : OnLeg) → passes test one.1 ≡ true → is_of kind one.0 ≡ true
    → one.0.number ≡ first + count → Stands test kind first count log
    → Stands test kind first (count + 1) (log ++ one ∷ [])
stands_next test kind first count log (leg, m) e k n h = record {
  all = total_rises test kind count log (leg, m) e k h.all;
  each = λ at.
      let more = leg_count test at log leg m in
      let one : once_if (same_leg leg at && passes test m) ≡ once_if (same_leg leg at) =
      subst (λ (p : Bool). once_if (same_leg leg at && p) ≡ once_if (same_leg leg at)) (sym e)
      (always (same_leg leg at)) in
      let before = h.each at in
      let next =
      next_among (kind_number kind) (kind_number leg.kind) (kind_number at.kind) first count
      leg.number at.number k n in
      omega (arith, more, one, before, next);
}

none_among : (b : Bool) (first n : ℕ) → 0 ≡ once_if (b && is_among first 0 n)
none_among b first n = grind (arith, nat_tests)

pub stands_none : (test : Named → Bool) (kind : LegKind) (first : ℕ)
    → Stands test kind first 0 []
stands_none test kind first =
    record { all = refl; each = λ leg. none_among (is_of kind leg) first leg.number }

pub stands_on : (test : Named → Bool) (kind : LegKind) (first count : ℕ) (log : List OnLeg)
    → Stands test kind first count log → StandsOnEach test kind first log
stands_on test kind first count log h leg =
    subst (λ (n : ℕ).
    count_of test (of_leg leg log) ≡ once_if (is_of kind leg && is_among first n leg.number))
    (sym h.all) (h.each leg)

pub once_at_most : (b : Bool) → once_if b ≤ 1
once_at_most true = omega arith
once_at_most false = omega arith
