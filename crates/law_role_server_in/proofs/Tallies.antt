-- what came on an is leg and was put there, by counts
use Rattle.law_order.proofs.Vocabulary.{◌≡◌, ℕ, suc, ◌+◌, ◌≤◌, Bool, true, false, if◌then◌else◌, List, [], ◌∷◌, ◌++◌, Some, None, arith, refl, sym, ap, ◌∙◌, subst, Option}
use Rattle.law_moves.proofs.Vocabulary.{test_same, test_other, Cookie, Named, InR2A2, Leg, InServer, Message, Text, Pdu, Packet, same_leg, count_of, OnLeg, of_leg}
use Rattle.law_moves.proofs.Lemmas.{count_append, leg_more}
use Rattle.law_role_server.proofs.Vocabulary.{is_conn_b2, is_conn_b3, is_end_a2, is_in_r1_a2, is_in_r1_a6, leg_at, often_at}
use Rattle.law_role_server_in.specs.Refusing.{is_in_r1_b2, last_of, named_by, successor_by}

-- CONN/B2 and IN_R1/A2 that came there, IN_R1/A2 alone, IN_R1/A6, END/A2; and CONN/B3 and IN_R1/B2
-- that were put there
pub record Tally : Type 0 where
  pub first : ℕ
  pub announced : ℕ
  pub left : ℕ
  pub over : ℕ
  pub told : ℕ
  -- the cookies that the last announcement there names, and the last IN_R1/A2
  pub named : Option Cookie
  pub successor : Option Cookie

abbrev pub named_at : (Named → Option Cookie → Option Cookie) → ℕ → List OnLeg → Option Cookie
named_at pick n came = last_of pick None (of_leg (leg_at InServer n) came)

abbrev pub tally : ℕ → List OnLeg → List OnLeg → Tally
tally n came put = record {
  first = often_at is_conn_b2 InServer n came + often_at is_in_r1_a2 InServer n came;
  announced = often_at is_in_r1_a2 InServer n came;
  left = often_at is_in_r1_a6 InServer n came;
  over = often_at is_end_a2 InServer n came;
  told = often_at is_conn_b3 InServer n put + often_at is_in_r1_b2 InServer n put;
  named = named_at named_by n came;
  successor = named_at successor_by n came;
}

-- more passed, but no channel began, and no window was told
pub record Grows (c d : Tally) : Type 0 where
  pub first : d.first ≡ c.first
  pub announced : c.announced ≤ d.announced
  pub left : c.left ≤ d.left
  pub over : c.over ≤ d.over
  pub told : d.told ≡ c.told
  pub named : d.named ≡ c.named
  pub successor : d.successor ≡ c.successor

-- ---- a message more

abbrev pub here : (Named → Bool) → ℕ → OnLeg → ℕ
here test n one = often_at test InServer n (one ∷ [])

pub often_more : (test : Named → Bool) (n : ℕ) (log : List OnLeg) (one : OnLeg)
    → often_at test InServer n (log ++ one ∷ []) ≡ often_at test InServer n log + here test n one
often_more test n log one =
    ap (count_of test) (leg_more (leg_at InServer n) log one)
    ∙ count_append test (of_leg (leg_at InServer n) log) (of_leg (leg_at InServer n) (one ∷ []))

-- what doesn't pass the test
pub none_here : (test : Named → Bool) (n : ℕ) (leg : Leg) (m : Message) → count_of test (m ∷ []) ≡ 0
    → here test n (leg, m) ≡ 0
none_here test n leg m none = by (same_leg leg (leg_at InServer n))
  where
    by : (b : Bool) → count_of test (if b then m ∷ [] else []) ≡ 0
    by true = none
    by false = refl

-- nor what is on another leg
pub other_here : (test : Named → Bool) (n k : ℕ) (m : Message) → (n ≡ k → ⊥)
    → here test n (leg_at InServer k, m) ≡ 0
other_here test n k m apart =
    ap (λ (b : Bool). count_of test (if b then m ∷ [] else []))
    (test_other k n (λ e. apart (sym e)))

own_here : (test : Named → Bool) (k : ℕ) (m : Message)
    → here test k (leg_at InServer k, m) ≡ count_of test (m ∷ [])
own_here test k m =
    ap (λ (b : Bool). count_of test (if b then m ∷ [] else [])) (test_same k)

-- what messages name that are more
last_append : (pick : Named → Option Cookie → Option Cookie) (before : Option Cookie)
    (a b : List Message) → last_of pick before (a ++ b) ≡ last_of pick (last_of pick before a) b
last_append pick before [] b = refl
last_append pick before (Text bytes ∷ a) b = last_append pick before a b
last_append pick before (Pdu pdu ∷ a) b = last_append pick before a b
last_append pick before (Packet packet ∷ a) b = last_append pick (pick packet before) a b

named_more : (pick : Named → Option Cookie → Option Cookie) (n : ℕ) (came : List OnLeg)
    (one : OnLeg) → named_at pick n (came ++ one ∷ [])
    ≡ last_of pick (named_at pick n came) (of_leg (leg_at InServer n) (one ∷ []))
named_more pick n came one =
    ap (last_of pick None) (leg_more (leg_at InServer n) came one)
    ∙ last_append pick None (of_leg (leg_at InServer n) came)
    (of_leg (leg_at InServer n) (one ∷ []))

-- a message that names none
abbrev pub Still : (Named → Option Cookie → Option Cookie) → Message → Type 0
Still pick m = (before : Option Cookie) → last_of pick before (m ∷ []) ≡ before

named_still : (pick : Named → Option Cookie → Option Cookie) (n : ℕ) (came : List OnLeg)
    (leg : Leg) (m : Message) → Still pick m
    → named_at pick n (came ++ (leg, m) ∷ []) ≡ named_at pick n came
named_still pick n came leg m still =
    named_more pick n came (leg, m) ∙ by (same_leg leg (leg_at InServer n))
  where
    by : (b : Bool) → last_of pick (named_at pick n came) (if b then m ∷ [] else [])
        ≡ named_at pick n came
    by true = still (named_at pick n came)
    by false = refl

named_other : (pick : Named → Option Cookie → Option Cookie) (n k : ℕ) (came : List OnLeg)
    (m : Message) → (n ≡ k → ⊥)
    → named_at pick n (came ++ (leg_at InServer k, m) ∷ []) ≡ named_at pick n came
named_other pick n k came m apart =
    named_more pick n came (leg_at InServer k, m)
    ∙ ap (λ (b : Bool). last_of pick (named_at pick n came) (if b then m ∷ [] else []))
    (test_other k n (λ e. apart (sym e)))

pub named_own : (pick : Named → Option Cookie → Option Cookie) (k : ℕ) (came : List OnLeg)
    (packet : Named) → named_at pick k (came ++ (leg_at InServer k, Packet packet) ∷ [])
    ≡ pick packet (named_at pick k came)
named_own pick k came packet =
    named_more pick k came (leg_at InServer k, Packet packet)
    ∙ ap (λ (b : Bool).
    last_of pick (named_at pick k came) (if b then Packet packet ∷ [] else [])) (test_same k)

-- ---- the tallies

module _ (n : ℕ) (came put : List OnLeg) (one : OnLeg) where
  abbrev more : Tally
  more = tally n (came ++ one ∷ []) put

  pub came_grows : here is_conn_b2 n one ≡ 0 → here is_in_r1_a2 n one ≡ 0
      → named_at named_by n (came ++ one ∷ []) ≡ named_at named_by n came
      → named_at successor_by n (came ++ one ∷ []) ≡ named_at successor_by n came
      → Grows (tally n came put) more
  came_grows conn_b2 in_r1_a2 names succeeds =
      let more_conn_b2 = often_more is_conn_b2 n came one in
      let more_in_r1_a2 = often_more is_in_r1_a2 n came one in
      let more_in_r1_a6 = often_more is_in_r1_a6 n came one in
      let more_end_a2 = often_more is_end_a2 n came one in record {
        first = omega (arith, more_conn_b2, more_in_r1_a2, conn_b2, in_r1_a2);
        announced = omega (arith, more_in_r1_a2);
        left = omega (arith, more_in_r1_a6);
        over = omega (arith, more_end_a2);
        told = refl;
        named = names;
        successor = succeeds;
      }

  abbrev told_more : Tally
  told_more = tally n came (put ++ one ∷ [])

  pub put_grows : here is_conn_b3 n one ≡ 0 → here is_in_r1_b2 n one ≡ 0
      → Grows (tally n came put) told_more
  put_grows conn_b3 in_r1_b2 =
      let more_conn_b3 = often_more is_conn_b3 n put one in
      let more_in_r1_b2 = often_more is_in_r1_b2 n put one in record {
        first = refl;
        announced = omega arith;
        left = omega arith;
        over = omega arith;
        told = omega (arith, more_conn_b3, more_in_r1_b2, conn_b3, in_r1_b2);
        named = refl;
        successor = refl;
      }

-- a message that begins no channel
pub quiet_came : (n : ℕ) (came put : List OnLeg) (leg : Leg) (m : Message)
    → count_of is_conn_b2 (m ∷ []) ≡ 0 → count_of is_in_r1_a2 (m ∷ []) ≡ 0
    → Still named_by m → Still successor_by m
    → Grows (tally n came put) (tally n (came ++ (leg, m) ∷ []) put)
quiet_came n came put leg m conn_b2 in_r1_a2 names succeeds =
    came_grows n came put (leg, m) (none_here is_conn_b2 n leg m conn_b2)
    (none_here is_in_r1_a2 n leg m in_r1_a2) (named_still named_by n came leg m names)
    (named_still successor_by n came leg m succeeds)

-- IN_R2/A2 may name another cookie
pub carried_came : (n k : ℕ) (came put : List OnLeg) (successor : Cookie)
    → let one : OnLeg = (leg_at InServer k, Packet (InR2A2 successor)) in
    Grows (tally n came put)
    (record (tally n (came ++ one ∷ []) put) { named = named_at named_by n came })
carried_came n k came put successor =
    let one : OnLeg = (leg_at InServer k, Packet (InR2A2 successor)) in
    let more_conn_b2 = often_more is_conn_b2 n came one in
    let more_in_r1_a2 = often_more is_in_r1_a2 n came one in
    let more_in_r1_a6 = often_more is_in_r1_a6 n came one in
    let more_end_a2 = often_more is_end_a2 n came one in
    let conn_b2 = none_here is_conn_b2 n (leg_at InServer k) (Packet (InR2A2 successor)) refl in
    let in_r1_a2 = none_here is_in_r1_a2 n (leg_at InServer k) (Packet (InR2A2 successor)) refl in
    record {
      first = omega (arith, more_conn_b2, more_in_r1_a2, conn_b2, in_r1_a2);
      announced = omega (arith, more_in_r1_a2);
      left = omega (arith, more_in_r1_a6);
      over = omega (arith, more_end_a2);
      told = refl;
      named = refl;
      successor = named_still successor_by n came (leg_at InServer k)
          (Packet (InR2A2 successor)) (λ before. refl);
    }

pub carried_names : (n k : ℕ) (came : List OnLeg) (successor : Cookie) → n ≡ k
    → named_at named_by n (came ++ (leg_at InServer k, Packet (InR2A2 successor)) ∷ [])
    ≡ Some successor
carried_names n k came successor is =
    subst (λ (j : ℕ).
    named_at named_by j (came ++ (leg_at InServer k, Packet (InR2A2 successor)) ∷ [])
    ≡ Some successor) (sym is) (named_own named_by k came (InR2A2 successor))

pub carried_other : (n k : ℕ) (came : List OnLeg) (successor : Cookie) → (n ≡ k → ⊥)
    → named_at named_by n (came ++ (leg_at InServer k, Packet (InR2A2 successor)) ∷ [])
    ≡ named_at named_by n came
carried_other n k came successor apart =
    named_other named_by n k came (Packet (InR2A2 successor)) apart

pub other_came : (n k : ℕ) (came put : List OnLeg) (m : Message) → (n ≡ k → ⊥)
    → Grows (tally n came put) (tally n (came ++ (leg_at InServer k, m) ∷ []) put)
other_came n k came put m apart =
    came_grows n came put (leg_at InServer k, m) (other_here is_conn_b2 n k m apart)
    (other_here is_in_r1_a2 n k m apart) (named_other named_by n k came m apart)
    (named_other successor_by n k came m apart)

pub quiet_put : (n : ℕ) (came put : List OnLeg) (leg : Leg) (m : Message)
    → count_of is_conn_b3 (m ∷ []) ≡ 0 → count_of is_in_r1_b2 (m ∷ []) ≡ 0
    → Grows (tally n came put) (tally n came (put ++ (leg, m) ∷ []))
quiet_put n came put leg m conn_b3 in_r1_b2 =
    put_grows n came put (leg, m) (none_here is_conn_b3 n leg m conn_b3)
    (none_here is_in_r1_b2 n leg m in_r1_b2)

pub other_put : (n k : ℕ) (came put : List OnLeg) (m : Message) → (n ≡ k → ⊥)
    → Grows (tally n came put) (tally n came (put ++ (leg_at InServer k, m) ∷ []))
other_put n k came put m apart =
    put_grows n came put (leg_at InServer k, m) (other_here is_conn_b3 n k m apart)
    (other_here is_in_r1_b2 n k m apart)

-- what comes now on its leg
pub once_more : (test : Named → Bool) (k : ℕ) (packet : Named) (came : List OnLeg)
    → test packet ≡ true
    → often_at test InServer k (came ++ (leg_at InServer k, Packet packet) ∷ [])
    ≡ often_at test InServer k came + 1
once_more test k packet came passes =
    let all = often_more test k came (leg_at InServer k, Packet packet) in
    let own = own_here test k (Packet packet) in
    let is : count_of test (Packet packet ∷ []) ≡ 1 =
    ap {B = ℕ} (λ (b : Bool). if b then 1 else 0) passes in omega (arith, all, own, is)

pub now_often : (test : Named → Bool) (k : ℕ) (packet : Named) (came : List OnLeg)
    → test packet ≡ true
    → 1 ≤ often_at test InServer k (came ++ (leg_at InServer k, Packet packet) ∷ [])
now_often test k packet came passes =
    let more = once_more test k packet came passes in omega (arith, more)

-- and what came before, with one that begins a channel of this cookie
pub record Begins (cookie : Cookie) (c d : Tally) : Type 0 where
  pub first : d.first ≡ suc c.first
  pub left : c.left ≤ d.left
  pub over : c.over ≤ d.over
  pub told : d.told ≡ c.told
  pub named : d.named ≡ Some cookie

pub began : (n k : ℕ) (packet : Named) (cookie : Cookie) (came put : List OnLeg)
    → count_of is_conn_b2 (Packet packet ∷ []) + count_of is_in_r1_a2 (Packet packet ∷ []) ≡ 1
    → ((before : Option Cookie) → named_by packet before ≡ Some cookie) → n ≡ k
    → Begins cookie (tally n came put)
    (tally n (came ++ (leg_at InServer k, Packet packet) ∷ []) put)
began n k packet cookie came put counts names is =
    subst (λ (j : ℕ). Begins cookie (tally j came put)
    (tally j (came ++ (leg_at InServer k, Packet packet) ∷ []) put)) (sym is) (record {
      first = omega (arith, more_conn_b2, more_in_r1_a2, own_conn_b2, own_in_r1_a2, counts);
      left = omega (arith, more_in_r1_a6);
      over = omega (arith, more_end_a2);
      told = refl;
      named = named_own named_by k came packet ∙ names (named_at named_by k came);
    })
  where
    one : OnLeg
    one = (leg_at InServer k, Packet packet)

    more_conn_b2 : often_at is_conn_b2 InServer k (came ++ one ∷ [])
        ≡ often_at is_conn_b2 InServer k came + here is_conn_b2 k one
    more_conn_b2 = often_more is_conn_b2 k came one

    more_in_r1_a2 : often_at is_in_r1_a2 InServer k (came ++ one ∷ [])
        ≡ often_at is_in_r1_a2 InServer k came + here is_in_r1_a2 k one
    more_in_r1_a2 = often_more is_in_r1_a2 k came one

    more_in_r1_a6 : often_at is_in_r1_a6 InServer k (came ++ one ∷ [])
        ≡ often_at is_in_r1_a6 InServer k came + here is_in_r1_a6 k one
    more_in_r1_a6 = often_more is_in_r1_a6 k came one

    more_end_a2 : often_at is_end_a2 InServer k (came ++ one ∷ [])
        ≡ often_at is_end_a2 InServer k came + here is_end_a2 k one
    more_end_a2 = often_more is_end_a2 k came one

    own_conn_b2 : here is_conn_b2 k one ≡ count_of is_conn_b2 (Packet packet ∷ [])
    own_conn_b2 = own_here is_conn_b2 k (Packet packet)

    own_in_r1_a2 : here is_in_r1_a2 k one ≡ count_of is_in_r1_a2 (Packet packet ∷ [])
    own_in_r1_a2 = own_here is_in_r1_a2 k (Packet packet)
