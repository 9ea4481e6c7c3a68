-- how many packets a server was told channels by, where one message more came
use Rattle.law_order.proofs.Vocabulary.{◌≡◌, ℕ, ◌+◌, ◌≤◌, ◌==◌, Bool, true, false, if◌then◌else◌, List, [], ◌∷◌, ◌++◌, refl, ap, ◌∙◌, arith, nat_tests}
use Rattle.law_moves.proofs.Vocabulary.{Named, ConnB2, InR1A2, InR2A2, Leg, InServer, OutServer, Message, Text, Pdu, Packet, is_of, same_leg, OnLeg, Passage, of_leg, count_of, of_kind}
use Rattle.law_moves.proofs.Lemmas.{count_append, kind_more, leg_more}
use Rattle.law_role_inproxy.proofs.Vocabulary.{is_leg}
use Rattle.law_role_server.proofs.Vocabulary.{Server, in_came, is_conn_b2, is_in_r1_a2, is_in_r1_a3, is_in_r2_a2, is_in_r2_a3, often}
use Rattle.law_peers_moments.specs.GoingRound.{taken_in}
use Rattle.law_role_server_in.specs.Refusing.{came_at}

-- so many more pass a test, all of them on one leg
pub record OneMore (p q : Passage Server) : Type 0 where
  pub leg : ℕ
  pub more : (Named → Bool) → ℕ
  pub on_leg : (test : Named → Bool) → came_at test q leg ≡ came_at test p leg + more test
  pub on_all : (test : Named → Bool) → in_came test q ≡ in_came test p + more test
  pub elsewhere : (test : Named → Bool) (n : ℕ) → (n ≡ leg → ⊥)
      → came_at test q n ≡ came_at test p n
  -- it begins a channel, or tells of the next one, or neither
  pub one : more is_conn_b2 + more is_in_r1_a2 + more is_in_r2_a2 ≤ 1
  pub put : taken_in q ≡ taken_in p

-- ---- the message

few_packet : (m : Named)
    → count_of is_conn_b2 (Packet m ∷ []) + count_of is_in_r1_a2 (Packet m ∷ [])
    + count_of is_in_r2_a2 (Packet m ∷ []) ≤ 1
few_packet (ConnB2 version connection channel window timeout group address padding) = omega arith
few_packet (InR1A2 version connection predecessor successor window timeout) = omega arith
few_packet (InR2A2 successor) = omega arith
few_packet m = omega arith

few : (m : Message) → count_of is_conn_b2 (m ∷ []) + count_of is_in_r1_a2 (m ∷ [])
    + count_of is_in_r2_a2 (m ∷ []) ≤ 1
few (Text bytes) = omega arith
few (Pdu pdu) = omega arith
few (Packet m) = few_packet m

few_if : (b : Bool) (m : Message)
    → count_of is_conn_b2 (if b then m ∷ [] else [])
    + count_of is_in_r1_a2 (if b then m ∷ [] else [])
    + count_of is_in_r2_a2 (if b then m ∷ [] else []) ≤ 1
few_if true m = few m
few_if false m = omega arith

-- ---- its leg

own_leg : (leg : Leg) (b : Bool) → is_of InServer leg ≡ b → same_leg leg (is_leg leg.number) ≡ b
own_leg leg true e = grind (arith, nat_tests, e)
own_leg leg false e = grind (arith, nat_tests, e)

other_leg : (leg : Leg) (n : ℕ) → (n ≡ leg.number → ⊥) → same_leg leg (is_leg n) ≡ false
other_leg leg n apart = by (leg.number == n) refl
  where
    by : (b : Bool) → (leg.number == n) ≡ b → same_leg leg (is_leg n) ≡ false
    by true e = absurd (apart (grind (arith, nat_tests, e)))
    by false e = grind (arith, nat_tests, e)

module _ (p q : Passage Server) (one : OnLeg) (came : q.came ≡ p.came ++ one ∷ [])
    (put : q.put ≡ p.put) (test : Named → Bool) where
  abbrev at_end : List Message
  at_end = of_kind InServer (one ∷ [])

  all_more : in_came test q ≡ in_came test p + count_of test at_end
  all_more =
      ap (λ (log : List OnLeg). count_of test (of_kind InServer log)) came
      ∙ ap (count_of test) (kind_more InServer p.came one)
      ∙ count_append test (of_kind InServer p.came) at_end

  leg_by : (n : ℕ) → came_at test q n
      ≡ came_at test p n + count_of test (of_leg (is_leg n) (one ∷ []))
  leg_by n =
      ap (λ (log : List OnLeg). count_of test (of_leg (is_leg n) log)) came
      ∙ ap (count_of test) (leg_more (is_leg n) p.came one)
      ∙ count_append test (of_leg (is_leg n) p.came) (of_leg (is_leg n) (one ∷ []))

  own_more : came_at test q one.0.number ≡ came_at test p one.0.number + count_of test at_end
  own_more =
      let same : count_of test (of_leg (is_leg one.0.number) (one ∷ [])) ≡ count_of test at_end
      = ap (λ (b : Bool). count_of test (if b then one.1 ∷ [] else []))
      (own_leg one.0 (is_of InServer one.0) refl) in
      let by = leg_by one.0.number in omega (arith, same, by)

  other_same : (n : ℕ) → (n ≡ one.0.number → ⊥) → came_at test q n ≡ came_at test p n
  other_same n apart =
      let none : count_of test (of_leg (is_leg n) (one ∷ [])) ≡ 0
      = ap (λ (b : Bool). count_of test (if b then one.1 ∷ [] else [])) (other_leg one.0 n apart) in
      let by = leg_by n in omega (arith, none, by)

pub one_more_of : (p q : Passage Server) (one : OnLeg) → q.came ≡ p.came ++ one ∷ []
    → q.put ≡ p.put → OneMore p q
one_more_of p q one came put = record {
  leg = one.0.number;
  more = λ test. count_of test (of_kind InServer (one ∷ []));
  on_leg = own_more p q one came put;
  on_all = all_more p q one came put;
  elsewhere = other_same p q one came put;
  one = few_if (is_of InServer one.0) one.1;
  put = ap (λ (log : List OnLeg). often is_in_r1_a3 OutServer log + often is_in_r2_a3 OutServer log)
      put;
}
