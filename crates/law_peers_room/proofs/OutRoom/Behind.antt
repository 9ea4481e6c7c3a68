-- messages behind the first so many packets that pass a test
use Rattle.law_order.proofs.Vocabulary.{◌≡◌, ℕ, zero, suc, ◌+◌, ◌≤◌, Bool, true, false, if◌then◌else◌, List, [], ◌∷◌, ◌++◌, inr, refl, sym, ap, ◌∙◌, subst, arith}
use Rattle.law_moves.proofs.Vocabulary.{Named, Message, Text, Pdu, Packet, count_of, HasOne}
use Rattle.law_moves.proofs.Lemmas.{last_one_so, one_more_so}
use Rattle.law_peers_room.specs.OutRoom.Waits.{behind}

module _ (test : Named → Bool) where
  -- ---- one of them is so

  module _ (P : Named → Type 0) where
    -- the last message stands there, where no more are left out than pass the test
    pub last_behind : (k : ℕ) (ms : List Message) (m : Named) → P m → k ≤ count_of test ms
        → HasOne P (behind test k (ms ++ Packet m ∷ []))
    last_behind zero ms m is most = last_one_so P ms m is
    last_behind (suc k) [] m is most = absurd (omega (arith, most))
    last_behind (suc k) (Text bytes ∷ ms) m is most = last_behind (suc k) ms m is most
    last_behind (suc k) (Pdu pdu ∷ ms) m is most = last_behind (suc k) ms m is most
    last_behind (suc k) (Packet other ∷ ms) m is most =
        by (test other) most (λ less. last_behind k ms m is less)
        (λ same. last_behind (suc k) ms m is same)
      where
        by : (t : Bool)
            → suc k ≤ (if t then suc (count_of test ms) else count_of test ms)
            → (k ≤ count_of test ms → HasOne P (behind test k (ms ++ Packet m ∷ [])))
            → (suc k ≤ count_of test ms → HasOne P (behind test (suc k) (ms ++ Packet m ∷ [])))
            → HasOne P (if t then behind test k (ms ++ Packet m ∷ [])
            else behind test (suc k) (ms ++ Packet m ∷ []))
        by true most passed over = passed (omega (arith, most))
        by false most passed over = over most

    -- with more messages
    pub more_behind : (k : ℕ) (ms more : List Message) → HasOne P (behind test k ms)
        → HasOne P (behind test k (ms ++ more))
    more_behind zero ms more has = one_more_so P ms more has
    more_behind (suc k) [] more has = absurd has
    more_behind (suc k) (Text bytes ∷ ms) more has = more_behind (suc k) ms more has
    more_behind (suc k) (Pdu pdu ∷ ms) more has = more_behind (suc k) ms more has
    more_behind (suc k) (Packet other ∷ ms) more has =
        by (test other) (more_behind k ms more) (more_behind (suc k) ms more) has
      where
        by : (t : Bool) → (HasOne P (behind test k ms) → HasOne P (behind test k (ms ++ more)))
            → (HasOne P (behind test (suc k) ms) → HasOne P (behind test (suc k) (ms ++ more)))
            → HasOne P (if t then behind test k ms else behind test (suc k) ms)
            → HasOne P (if t then behind test k (ms ++ more)
            else behind test (suc k) (ms ++ more))
        by true passed over has = passed has
        by false passed over has = over has

    one_fewer : (k : ℕ) (ms : List Message) → HasOne P (behind test (suc k) ms)
        → HasOne P (behind test k ms)
    one_fewer k [] has = absurd has
    one_fewer zero (Text bytes ∷ ms) has = one_fewer zero ms has
    one_fewer (suc k) (Text bytes ∷ ms) has = one_fewer (suc k) ms has
    one_fewer zero (Pdu pdu ∷ ms) has = one_fewer zero ms has
    one_fewer (suc k) (Pdu pdu ∷ ms) has = one_fewer (suc k) ms has
    one_fewer zero (Packet other ∷ ms) has = by (test other) (one_fewer zero ms) has
      where
        by : (t : Bool) → (HasOne P (behind test 1 ms) → HasOne P ms)
            → HasOne P (if t then ms else behind test 1 ms) → HasOne P (Packet other ∷ ms)
        by true rest has = inr has
        by false rest has = inr (rest has)
    one_fewer (suc k) (Packet other ∷ ms) has =
        by (test other) (one_fewer k ms) (one_fewer (suc k) ms) has
      where
        by : (t : Bool) → (HasOne P (behind test (suc k) ms) → HasOne P (behind test k ms))
            → (HasOne P (behind test (suc (suc k)) ms) → HasOne P (behind test (suc k) ms))
            → HasOne P (if t then behind test (suc k) ms else behind test (suc (suc k)) ms)
            → HasOne P (if t then behind test k ms else behind test (suc k) ms)
        by true passed over has = passed has
        by false passed over has = over has

    pub fewer_behind : (j k : ℕ) (ms : List Message) → HasOne P (behind test (j + k) ms)
        → HasOne P (behind test k ms)
    fewer_behind zero k ms has =
        subst (λ (i : ℕ). HasOne P (behind test i ms)) (omega arith) has
    fewer_behind (suc j) k ms has =
        let more : suc j + k ≡ suc (j + k) = omega arith in
        fewer_behind j k ms (one_fewer (j + k) ms
        (subst (λ (i : ℕ). HasOne P (behind test i ms)) more has))

  -- ---- where no more are left out than pass

  pub record Split (k : ℕ) (ms : List Message) : Type 0 where
    pub front : List Message
    pub is : ms ≡ front ++ behind test k ms
    pub left : k + count_of test (behind test k ms) ≡ count_of test ms

  pub split_behind : (k : ℕ) (ms : List Message) → k ≤ count_of test ms → Split k ms
  split_behind zero ms most = record { front = []; is = refl; left = omega arith }
  split_behind (suc k) [] most = absurd (omega (arith, most))
  split_behind (suc k) (Text bytes ∷ ms) most =
      let rest = split_behind (suc k) ms most in record {
        front = Text bytes ∷ rest.front;
        is = ap (λ (all : List Message). Text bytes ∷ all) rest.is;
        left = rest.left;
      }
  split_behind (suc k) (Pdu pdu ∷ ms) most =
      let rest = split_behind (suc k) ms most in record {
        front = Pdu pdu ∷ rest.front;
        is = ap (λ (all : List Message). Pdu pdu ∷ all) rest.is;
        left = rest.left;
      }
  split_behind (suc k) (Packet other ∷ ms) most =
      by (test other) refl most (split_behind k ms) (split_behind (suc k) ms)
    where
      by : (t : Bool) → test other ≡ t
          → suc k ≤ (if t then suc (count_of test ms) else count_of test ms)
          → (k ≤ count_of test ms → Split k ms)
          → (suc k ≤ count_of test ms → Split (suc k) ms)
          → Split (suc k) (Packet other ∷ ms)
      by true e most passed over =
          let rest = passed (omega (arith, most)) in
          let left = rest.left in
          record {
            front = Packet other ∷ rest.front;
            is = ap (λ (all : List Message). Packet other ∷ all) rest.is
                ∙ ap (λ (t : Bool). Packet other ∷ rest.front
                ++ (if t then behind test k ms else behind test (suc k) ms)) (sym e);
            left =
                let here = ap (λ (t : Bool). count_of test
                (if t then behind test k ms else behind test (suc k) ms)) e in
                let all = ap (λ (t : Bool).
                if t then suc (count_of test ms) else count_of test ms) e in
                omega (arith, left, here, all);
          }
      by false e most passed over =
          let rest = over most in
          let left = rest.left in
          record {
            front = Packet other ∷ rest.front;
            is = ap (λ (all : List Message). Packet other ∷ all) rest.is
                ∙ ap (λ (t : Bool). Packet other ∷ rest.front
                ++ (if t then behind test k ms else behind test (suc k) ms)) (sym e);
            left =
                let here = ap (λ (t : Bool). count_of test
                (if t then behind test k ms else behind test (suc k) ms)) e in
                let all = ap (λ (t : Bool).
                if t then suc (count_of test ms) else count_of test ms) e in
                omega (arith, left, here, all);
          }
