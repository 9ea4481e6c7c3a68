-- how many packets pass a test, with a message more in a log
use Rattle.law_order.proofs.Vocabulary.{◌≡◌, ℕ, suc, ◌+◌, ◌≤◌, ◌==◌, Bool, true, false, if◌then◌else◌, List, [], ◌∷◌, ◌++◌, refl, ap, ◌∙◌, arith, and_parts, eqb-true, nat_tests, append-nil}
use Rattle.law_moves.proofs.Vocabulary.{Named, Leg, LegKind, ClientOut, OutServer, ClientIn, InServer, Message, Text, Pdu, Packet, kind_number, is_of, same_leg, one_if, OnLeg, of_leg, count_of, of_kind}
use Rattle.law_moves.proofs.Passages.Messages.{leg_more, kind_more, count_append, count_rises}

-- ---- which leg it is

pub kind_is : (a b : LegKind) → (kind_number a == kind_number b) ≡ true → a ≡ b
kind_is ClientOut ClientOut h = refl
kind_is OutServer OutServer h = refl
kind_is ClientIn ClientIn h = refl
kind_is InServer InServer h = refl
kind_is ClientOut OutServer h = absurd cc
kind_is ClientOut ClientIn h = absurd cc
kind_is ClientOut InServer h = absurd cc
kind_is OutServer ClientOut h = absurd cc
kind_is OutServer ClientIn h = absurd cc
kind_is OutServer InServer h = absurd cc
kind_is ClientIn ClientOut h = absurd cc
kind_is ClientIn OutServer h = absurd cc
kind_is ClientIn InServer h = absurd cc
kind_is InServer ClientOut h = absurd cc
kind_is InServer OutServer h = absurd cc
kind_is InServer ClientIn h = absurd cc

pub leg_is : (a b : Leg) → same_leg a b ≡ true → a ≡ b
leg_is a b h =
    let parts = and_parts (is_of a.kind b) (a.number == b.number) h in
    let kinds : a.kind ≡ b.kind = kind_is a.kind b.kind parts.0 in
    let numbers : a.number ≡ b.number = eqb-true a.number b.number parts.1 in
    ap (λ (k : LegKind). record a { kind = k }) kinds
    ∙ ap (λ (n : ℕ). record b { number = n }) numbers

pub itself : (leg : Leg) → same_leg leg leg ≡ true
itself leg = grind (arith, nat_tests)

-- ---- a message more

pub here_more : (leg : Leg) (log : List OnLeg) (m : Message)
    → of_leg leg (log ++ (leg, m) ∷ []) ≡ of_leg leg log ++ m ∷ []
here_more leg log m =
    leg_more leg log (leg, m)
    ∙ ap (λ (t : Bool). of_leg leg log ++ (if t then m ∷ [] else [])) (itself leg)

pub other_more : (leg : Leg) (log : List OnLeg) (one : OnLeg) → same_leg one.0 leg ≡ false
    → of_leg leg (log ++ one ∷ []) ≡ of_leg leg log
other_more leg log one e =
    leg_more leg log one
    ∙ ap (λ (t : Bool). of_leg leg log ++ (if t then one.1 ∷ [] else [])) e
    ∙ append-nil (of_leg leg log)

-- ---- a test

-- nothing passes
abbrev pub none : Named → Bool
none named = false

pub count_none : (messages : List Message) → count_of none messages ≡ 0
count_none [] = refl
count_none (Text bytes ∷ messages) = count_none messages
count_none (Pdu pdu ∷ messages) = count_none messages
count_none (Packet named ∷ messages) = count_none messages

-- ---- one packet

pub one_counts : (test : Named → Bool) (named : Named)
    → count_of test (Packet named ∷ []) ≡ one_if (test named)
one_counts test named = by (test named)
  where
    by : (t : Bool) → (if t then suc 0 else 0) ≡ one_if t
    by true = refl
    by false = refl

-- ---- one more

module _ (test : Named → Bool) where
  -- where the message is one more or none
  some_more : (a b : List Message) (m : Message) (t : Bool) → a ≡ (if t then m ∷ [] else [])
      → count_of test (b ++ a) ≤ count_of test b + count_of test (m ∷ [])
  some_more a b m true e =
      let both = count_append test b a in
      let is = ap (count_of test) e in omega (arith, both, is)
  some_more a b m false e =
      let both = count_append test b a in
      let is = ap (count_of test) e in omega (arith, both, is)

  pub leg_rises : (leg : Leg) (log : List OnLeg) (one : OnLeg)
      → count_of test (of_leg leg log) ≤ count_of test (of_leg leg (log ++ one ∷ []))
  leg_rises leg log one =
      let all = ap (count_of test) (leg_more leg log one) in
      let rise = count_rises test (of_leg leg log) (of_leg leg (one ∷ [])) in
      omega (arith, all, rise)

  pub leg_at_most : (leg : Leg) (log : List OnLeg) (one : OnLeg)
      → count_of test (of_leg leg (log ++ one ∷ []))
      ≤ count_of test (of_leg leg log) + count_of test (one.1 ∷ [])
  leg_at_most leg log one =
      let all = ap (count_of test) (leg_more leg log one) in
      let more = some_more (of_leg leg (one ∷ [])) (of_leg leg log) one.1
      (same_leg one.0 leg) refl in omega (arith, all, more)

  pub leg_beside : (leg : Leg) (log : List OnLeg) (one : OnLeg) → same_leg one.0 leg ≡ false
      → count_of test (of_leg leg (log ++ one ∷ [])) ≡ count_of test (of_leg leg log)
  leg_beside leg log one e = ap (count_of test) (other_more leg log one e)

  pub leg_here : (leg : Leg) (log : List OnLeg) (named : Named)
      → count_of test (of_leg leg (log ++ (leg, Packet named) ∷ []))
      ≡ count_of test (of_leg leg log) + one_if (test named)
  leg_here leg log named =
      let all = ap (count_of test) (here_more leg log (Packet named)) in
      let both = count_append test (of_leg leg log) (Packet named ∷ []) in
      let one = one_counts test named in omega (arith, all, both, one)

  pub kind_rises : (kind : LegKind) (log : List OnLeg) (one : OnLeg)
      → count_of test (of_kind kind log) ≤ count_of test (of_kind kind (log ++ one ∷ []))
  kind_rises kind log one =
      let all = ap (count_of test) (kind_more kind log one) in
      let rise = count_rises test (of_kind kind log) (of_kind kind (one ∷ [])) in
      omega (arith, all, rise)

  pub kind_at_most : (kind : LegKind) (log : List OnLeg) (one : OnLeg)
      → count_of test (of_kind kind (log ++ one ∷ []))
      ≤ count_of test (of_kind kind log) + count_of test (one.1 ∷ [])
  kind_at_most kind log one =
      let all = ap (count_of test) (kind_more kind log one) in
      let more = some_more (of_kind kind (one ∷ [])) (of_kind kind log) one.1
      (is_of kind one.0) refl in omega (arith, all, more)

  pub kind_here : (kind : LegKind) (log : List OnLeg) (leg : Leg) (named : Named)
      → is_of kind leg ≡ true
      → count_of test (of_kind kind (log ++ (leg, Packet named) ∷ []))
      ≡ count_of test (of_kind kind log) + one_if (test named)
  kind_here kind log leg named e =
      let all = ap (count_of test) (kind_more kind log (leg, Packet named)) in
      let last = ap (λ (t : Bool). count_of test (of_kind kind log
      ++ (if t then Packet named ∷ [] else []))) e in
      let both = count_append test (of_kind kind log) (Packet named ∷ []) in
      let one = one_counts test named in omega (arith, all, last, both, one)
