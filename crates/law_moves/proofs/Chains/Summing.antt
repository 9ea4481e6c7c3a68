-- what is counted on the legs of a kind is the sum of what is counted on each
use Rattle.law_order.proofs.Vocabulary.{◌≡◌, ℕ, zero, suc, ◌+◌, ◌≤◌, ◌==◌, nat_lt, Bool, true, false, if◌then◌else◌, List, [], ◌∷◌, refl, sym, subst, arith, max, nat_tests}
use Rattle.law_moves.proofs.Vocabulary.{Named, LegKind, Message, Text, Pdu, Packet, is_of, same_leg, OnLeg, of_leg, count_of, of_kind, sum_below, count_on}

-- ---- sums

pub sum_rises : (f g : ℕ → ℕ) → ((k : ℕ) → f k ≤ g k) → (n : ℕ)
    → sum_below f n ≤ sum_below g n
sum_rises f g each zero = omega arith
sum_rises f g each (suc n) =
    let rest = sum_rises f g each n in
    let one = each n in
    omega (arith, rest, one)

sum_same : (f g : ℕ → ℕ) → ((k : ℕ) → g k ≡ f k) → (n : ℕ) → sum_below g n ≡ sum_below f n
sum_same f g each zero = refl
sum_same f g each (suc n) =
    let rest = sum_same f g each n in
    let one = each n in
    omega (arith, rest, one)

-- one more at one number
abbrev at_number : ℕ → ℕ → ℕ → ℕ
at_number j c k = if j == k then c else 0

abbrev below_number : ℕ → ℕ → ℕ → ℕ
below_number j c n = if nat_lt j n then c else 0

sum_one : (f g : ℕ → ℕ) (j c : ℕ) → ((k : ℕ) → g k ≡ at_number j c k + f k) → (n : ℕ)
    → sum_below g n ≡ below_number j c n + sum_below f n
sum_one f g j c each zero = grind (arith, nat_tests)
sum_one f g j c each (suc n) =
    let rest = sum_one f g j c each n in
    let one = each n in
    grind (arith, nat_tests, rest, one)

-- ---- a message more at the front

first_counts : (test : Named → Bool) (m : Message) (ms : List Message)
    → count_of test (m ∷ ms) ≡ count_of test (m ∷ []) + count_of test ms
first_counts test (Text bytes) ms = omega arith
first_counts test (Pdu pdu) ms = omega arith
first_counts test (Packet named) ms = by (test named)
  where
    by : (t : Bool) → (if t then suc (count_of test ms) else count_of test ms)
        ≡ (if t then 1 else 0) + count_of test ms
    by true = omega arith
    by false = omega arith

module _ (test : Named → Bool) (kind : LegKind) (one : OnLeg) (log : List OnLeg) where
  abbrev here : ℕ
  here = count_of test (one.1 ∷ [])

  on_number : (t : Bool) (k : ℕ) → is_of kind one.0 ≡ t
      → count_on test kind (one ∷ log) k
      ≡ (if t then at_number one.0.number here k else 0) + count_on test kind log k
  on_number t k e =
      by (same_leg one.0 (record { kind = kind; number = k })) refl
    where
      by : (s : Bool) → same_leg one.0 (record { kind = kind; number = k }) ≡ s
          → count_of test (if s then one.1 ∷ of_leg (record { kind = kind; number = k }) log
          else of_leg (record { kind = kind; number = k }) log)
          ≡ (if t then at_number one.0.number here k else 0) + count_on test kind log k
      by true is =
          let counts = first_counts test one.1
          (of_leg (record { kind = kind; number = k }) log) in
          grind (arith, nat_tests, e, is, counts)
      by false is = grind (arith, nat_tests, e, is)

  other_number : (k : ℕ) → is_of kind one.0 ≡ false
      → count_on test kind (one ∷ log) k ≡ count_on test kind log k
  other_number k e = let same = on_number false k e in omega (arith, same)

  of_one : (t : Bool) → is_of kind one.0 ≡ t
      → count_of test (of_kind kind (one ∷ log))
      ≡ (if t then here else 0) + count_of test (of_kind kind log)
  of_one true e =
      subst (λ (t : Bool). count_of test (if t then one.1 ∷ of_kind kind log else of_kind kind log)
      ≡ here + count_of test (of_kind kind log)) (sym e)
      (first_counts test one.1 (of_kind kind log))
  of_one false e =
      subst (λ (t : Bool). count_of test (if t then one.1 ∷ of_kind kind log else of_kind kind log)
      ≡ 0 + count_of test (of_kind kind log)) (sym e) (omega arith)

-- ---- the legs of a kind

-- so many at most stand on the first legs
pub some_legs : (test : Named → Bool) (kind : LegKind) (log : List OnLeg) (n : ℕ)
    → sum_below (count_on test kind log) n ≤ count_of test (of_kind kind log)
some_legs test kind [] n =
    let none = sum_same (λ k. 0) (count_on test kind []) (λ k. refl) n in
    let zeros = nothing n in omega (arith, none, zeros)
  where
    nothing : (n : ℕ) → sum_below (λ k. 0) n ≡ 0
    nothing zero = refl
    nothing (suc n) = let rest = nothing n in omega (arith, rest)
some_legs test kind (one ∷ log) n = by (some_legs test kind log n) (is_of kind one.0) refl
  where
    by : sum_below (count_on test kind log) n ≤ count_of test (of_kind kind log)
        → (t : Bool) → is_of kind one.0 ≡ t
        → sum_below (count_on test kind (one ∷ log)) n
        ≤ count_of test (of_kind kind (one ∷ log))
    by before true e =
        let all = of_one test kind one log true e in
        let sum = sum_one (count_on test kind log) (count_on test kind (one ∷ log)) one.0.number
        (count_of test (one.1 ∷ [])) (λ k. on_number test kind one log true k e) n in
        grind (arith, nat_tests, all, sum, before)
    by before false e =
        let all = of_one test kind one log false e in
        let sum = sum_same (count_on test kind log) (count_on test kind (one ∷ log))
        (λ k. other_number test kind one log k e) n in
        omega (arith, all, sum, before)

-- all stand on the legs below some number
pub record Bounded (test : Named → Bool) (kind : LegKind) (log : List OnLeg) : Type 0 where
  pub bound : ℕ
  pub all : (n : ℕ) → bound ≤ n
      → count_of test (of_kind kind log) ≤ sum_below (count_on test kind log) n

one_more_leg : (test : Named → Bool) (kind : LegKind) (one : OnLeg) (log : List OnLeg)
    → Bounded test kind log → Bounded test kind (one ∷ log)
one_more_leg test kind one log before = record {
  bound = max (suc one.0.number) before.bound;
  all = λ n least. by n least (is_of kind one.0) refl;
}
  where
    by : (n : ℕ) → max (suc one.0.number) before.bound ≤ n → (t : Bool)
        → is_of kind one.0 ≡ t
        → count_of test (of_kind kind (one ∷ log))
        ≤ sum_below (count_on test kind (one ∷ log)) n
    by n least true e =
        let all = of_one test kind one log true e in
        let sum = sum_one (count_on test kind log) (count_on test kind (one ∷ log)) one.0.number
        (count_of test (one.1 ∷ [])) (λ k. on_number test kind one log true k e) n in
        let reach : before.bound ≤ n = grind (arith, nat_tests, least) in
        let here : suc one.0.number ≤ n = grind (arith, nat_tests, least) in
        let rest = before.all n reach in
        grind (arith, nat_tests, all, sum, rest, here)
    by n least false e =
        let all = of_one test kind one log false e in
        let sum = sum_same (count_on test kind log) (count_on test kind (one ∷ log))
        (λ k. other_number test kind one log k e) n in
        let reach : before.bound ≤ n = grind (arith, nat_tests, least) in
        let rest = before.all n reach in
        omega (arith, all, sum, rest)

pub all_legs : (test : Named → Bool) (kind : LegKind) (log : List OnLeg) → Bounded test kind log
all_legs test kind [] = record { bound = 0; all = λ n least. omega arith }
all_legs test kind (one ∷ log) = one_more_leg test kind one log (all_legs test kind log)
