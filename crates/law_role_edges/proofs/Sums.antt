-- counts of packets as sums over a log, to which each message adds what it is worth
use Rattle.law_order.proofs.Vocabulary.{◌≡◌, ℕ, suc, ◌+◌, Bool, true, false, if◌then◌else◌, List, [], ◌∷◌, ◌++◌, refl, ap, arith}
use Rattle.law_moves.proofs.Vocabulary.{by_test, Named, Leg, LegKind, Message, Text, Pdu, Packet, same_leg, is_of, one_if, OnLeg, of_leg, of_kind, count_of}
use Rattle.law_moves.proofs.Lemmas.{itself}
use Rattle.law_role_edges.specs.Openings.{is_later, of_later}

-- where it passes a test
abbrev pub worth_of : (Named → Bool) → Message → ℕ
worth_of test (Text bytes) = 0
worth_of test (Pdu pdu) = 0
worth_of test (Packet named) = one_if (test named)

-- on the legs that pass another
abbrev pub worth_on : (Leg → Bool) → (Named → Bool) → OnLeg → ℕ
worth_on on test one = if on one.0 then worth_of test one.1 else 0

abbrev pub sum_on : (Leg → Bool) → (Named → Bool) → List OnLeg → ℕ
sum_on on test [] = 0
sum_on on test (one ∷ log) = worth_on on test one + sum_on on test log

-- the leg itself
abbrev pub at : Leg → Leg → Bool
at leg other = same_leg other leg

pub sum_more : (on : Leg → Bool) (test : Named → Bool) (log : List OnLeg) (one : OnLeg)
    → sum_on on test (log ++ one ∷ []) ≡ sum_on on test log + worth_on on test one
sum_more on test [] one = omega arith
sum_more on test (first ∷ log) one =
    let rest = sum_more on test log one in omega (arith, rest)

-- ---- what a message is worth

pub worth_here : (leg : Leg) (test : Named → Bool) (m : Message)
    → worth_on (at leg) test (leg, m) ≡ worth_of test m
worth_here leg test m = ap (λ (t : Bool). if t then worth_of test m else 0) (itself leg)

pub worth_none : (on : Leg → Bool) (test : Named → Bool) (leg : Leg) (m : Message)
    → worth_of test m ≡ 0 → worth_on on test (leg, m) ≡ 0
worth_none on test leg m none =
    by_test (λ (k : ℕ). k ≡ 0) (on leg) (worth_of test m) 0 (λ e. none) (λ e. refl)

-- ---- counts

count_first : (test : Named → Bool) (m : Message) (ms : List Message)
    → count_of test (m ∷ ms) ≡ worth_of test m + count_of test ms
count_first test (Text bytes) ms = omega arith
count_first test (Pdu pdu) ms = omega arith
count_first test (Packet named) ms = by (test named)
  where
    by : (t : Bool)
        → (if t then suc (count_of test ms) else count_of test ms) ≡ one_if t + count_of test ms
    by true = omega arith
    by false = omega arith

count_if : (test : Named → Bool) (t : Bool) (m : Message) (ms : List Message) (sum : ℕ)
    → count_of test ms ≡ sum
    → count_of test (if t then m ∷ ms else ms) ≡ (if t then worth_of test m else 0) + sum
count_if test true m ms sum rest =
    let one = count_first test m ms in omega (arith, one, rest)
count_if test false m ms sum rest = omega (arith, rest)

pub leg_counts : (leg : Leg) (test : Named → Bool) (log : List OnLeg)
    → count_of test (of_leg leg log) ≡ sum_on (at leg) test log
leg_counts leg test [] = refl
leg_counts leg test (one ∷ log) =
    count_if test (same_leg one.0 leg) one.1 (of_leg leg log) (sum_on (at leg) test log)
    (leg_counts leg test log)

pub kind_counts : (kind : LegKind) (test : Named → Bool) (log : List OnLeg)
    → count_of test (of_kind kind log) ≡ sum_on (is_of kind) test log
kind_counts kind test [] = refl
kind_counts kind test (one ∷ log) =
    count_if test (is_of kind one.0) one.1 (of_kind kind log) (sum_on (is_of kind) test log)
    (kind_counts kind test log)

pub later_counts : (n : ℕ) (test : Named → Bool) (log : List OnLeg)
    → count_of test (of_later n log) ≡ sum_on (is_later n) test log
later_counts n test [] = refl
later_counts n test (one ∷ log) =
    count_if test (is_later n one.0) one.1 (of_later n log) (sum_on (is_later n) test log)
    (later_counts n test log)
