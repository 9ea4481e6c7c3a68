-- a channel that began has one cookie
use Rattle.law_order.proofs.Vocabulary.{◌≡◌, ℕ, suc, ◌+◌, ◌≤◌, ◌&&◌, ◌||◌, Bool, true, false, if◌then◌else◌, List, [], ◌∷◌, inl, inr, arith, refl, sym, ◌∙◌, subst, nat_tests}
use Rattle.law_moves.proofs.Vocabulary.{Cookie, Named, ConnA1, ConnB1, InR1A1, OutR1A3, Leg, LegKind, ClientIn, ClientOut, Message, Text, Pdu, Packet, is_of, OnLeg, of_leg, BeginsIn, BeginsOut, HasBegunIn, HasBegunOut, HasOne, count_of}
use Rattle.law_role_client.proofs.Vocabulary.{ci, co, is_conn_a1, is_conn_b1, is_in_r1_a1, is_out_r1_a3, is_among, once_if, total, StandsOnEach}

either_count : (one other : Named → Bool) (ms : List Message)
    → count_of (λ named. one named || other named) ms ≤ count_of one ms + count_of other ms
either_count one other [] = omega arith
either_count one other (Text bytes ∷ ms) = either_count one other ms
either_count one other (Pdu pdu ∷ ms) = either_count one other ms
either_count one other (Packet named ∷ ms) =
    by (one named) (other named) (count_of (λ n. one n || other n) ms) (count_of one ms)
    (count_of other ms) (either_count one other ms)
  where
    by : (a b : Bool) (n k l : ℕ) → n ≤ k + l
        → (if a || b then suc n else n) ≤ (if a then suc k else k) + (if b then suc l else l)
    by true true n k l le = omega (arith, le)
    by true false n k l le = omega (arith, le)
    by false true n k l le = omega (arith, le)
    by false false n k l le = omega (arith, le)

-- where the packets that begin a channel pass a test, and at most one passes it
module _ (test : Named → Bool) (Is : Cookie → Named → Type 0)
    (same : (a b : Cookie) (named : Named) → Is a named → Is b named → a ≡ b)
    (tested : (a : Cookie) (named : Named) → Is a named → test named ≡ true) where
  some : (a : Cookie) (ms : List Message) → HasOne (Is a) ms → 1 ≤ count_of test ms
  some a [] h = absurd h
  some a (Text bytes ∷ ms) h = some a ms h
  some a (Pdu pdu ∷ ms) h = some a ms h
  some a (Packet named ∷ ms) (inl is) =
      subst (λ (b : Bool). 1 ≤ (if b then suc (count_of test ms) else count_of test ms))
      (sym (tested a named is)) (omega arith)
  some a (Packet named ∷ ms) (inr rest) = by (test named) (some a ms rest)
    where
      by : (b : Bool) → 1 ≤ count_of test ms
          → 1 ≤ (if b then suc (count_of test ms) else count_of test ms)
      by true le = omega (arith, le)
      by false le = le

  behind_one : (a b : Cookie) (named : Named) (ms : List Message)
      → count_of test (Packet named ∷ ms) ≤ 1 → Is a named → HasOne (Is b) ms → ⊥
  behind_one a b named ms most is rest =
      let one : suc (count_of test ms) ≤ 1 =
      subst (λ (t : Bool). (if t then suc (count_of test ms) else count_of test ms) ≤ 1)
      (tested a named is) most in
      let more = some b ms rest in omega (arith, one, more)

  one_only : (a b : Cookie) (ms : List Message) → count_of test ms ≤ 1 → HasOne (Is a) ms
      → HasOne (Is b) ms → a ≡ b
  one_only a b [] most h k = absurd h
  one_only a b (Text bytes ∷ ms) most h k = one_only a b ms most h k
  one_only a b (Pdu pdu ∷ ms) most h k = one_only a b ms most h k
  one_only a b (Packet named ∷ ms) most (inl is) (inl other) = same a b named is other
  one_only a b (Packet named ∷ ms) most (inl is) (inr rest) =
      absurd (behind_one a b named ms most is rest)
  one_only a b (Packet named ∷ ms) most (inr rest) (inl is) =
      absurd (behind_one b a named ms most is rest)
  one_only a b (Packet named ∷ ms) most (inr rest) (inr others) =
      one_only a b ms (by (test named) most) rest others
    where
      by : (t : Bool) → (if t then suc (count_of test ms) else count_of test ms) ≤ 1
          → count_of test ms ≤ 1
      by true le = omega (arith, le)
      by false le = le

-- the first packet is on the first leg alone, and each further one on a leg behind
apart : (b : Bool) (t a n : ℕ) → t ≤ 1
    → once_if (b && is_among 1 t n) + once_if (b && is_among 2 a n) ≤ 1
apart b t a n most = grind (arith, nat_tests, most)

at_most_one : (first later : Named → Bool) (kind : LegKind) (leg : Leg) (log : List OnLeg)
    → total first kind log ≤ 1 → StandsOnEach first kind 1 log → StandsOnEach later kind 2 log
    → count_of (λ named. first named || later named) (of_leg leg log) ≤ 1
at_most_one first later kind leg log most on behind =
    let both = either_count first later (of_leg leg log) in
    let one = on leg in
    let other = behind leg in
    let sum =
    apart (is_of kind leg) (total first kind log) (total later kind log) leg.number most in
    omega (arith, both, one, other, sum)

-- ---- IN channels

same_in : (a b : Cookie) (named : Named) → BeginsIn a named → BeginsIn b named → a ≡ b
same_in a b (ConnB1 v of c l k g) is other = sym is ∙ other
same_in a b (InR1A1 v of p c) is other = sym is ∙ other
same_in a b named is other = absurd is

tested_in : (a : Cookie) (named : Named) → BeginsIn a named
    → is_conn_b1 named || is_in_r1_a1 named ≡ true
tested_in a (ConnB1 v of c l k g) is = refl
tested_in a (InR1A1 v of p c) is = refl
tested_in a named is = absurd is

pub one_in_cookie : (log : List OnLeg) → total is_conn_b1 ClientIn log ≤ 1
    → StandsOnEach is_conn_b1 ClientIn 1 log → StandsOnEach is_in_r1_a1 ClientIn 2 log
    → (n : ℕ) (a b : Cookie) → HasBegunIn a (of_leg (ci n) log)
    → HasBegunIn b (of_leg (ci n) log) → a ≡ b
one_in_cookie log most on behind n a b =
    one_only (λ named. is_conn_b1 named || is_in_r1_a1 named) BeginsIn same_in tested_in a b
    (of_leg (ci n) log) (at_most_one is_conn_b1 is_in_r1_a1 ClientIn (ci n) log most on behind)

-- ---- OUT channels

same_out : (a b : Cookie) (named : Named) → BeginsOut a named → BeginsOut b named → a ≡ b
same_out a b (ConnA1 v of c w) is other = sym is ∙ other
same_out a b (OutR1A3 v of p c w) is other = sym is ∙ other
same_out a b named is other = absurd is

tested_out : (a : Cookie) (named : Named) → BeginsOut a named
    → is_conn_a1 named || is_out_r1_a3 named ≡ true
tested_out a (ConnA1 v of c w) is = refl
tested_out a (OutR1A3 v of p c w) is = refl
tested_out a named is = absurd is

pub one_out_cookie : (log : List OnLeg) → total is_conn_a1 ClientOut log ≤ 1
    → StandsOnEach is_conn_a1 ClientOut 1 log → StandsOnEach is_out_r1_a3 ClientOut 2 log
    → (n : ℕ) (a b : Cookie) → HasBegunOut a (of_leg (co n) log)
    → HasBegunOut b (of_leg (co n) log) → a ≡ b
one_out_cookie log most on behind n a b =
    one_only (λ named. is_conn_a1 named || is_out_r1_a3 named) BeginsOut same_out tested_out a b
    (of_leg (co n) log) (at_most_one is_conn_a1 is_out_r1_a3 ClientOut (co n) log most on behind)
