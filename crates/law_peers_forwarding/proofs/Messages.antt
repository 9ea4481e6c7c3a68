-- the first and the last acknowledgement to the client of a stretch, and what stands between them
use Rattle.law_order.proofs.Vocabulary.{◌≡◌, ◌⊎◌, inl, inr, ℕ, zero, suc, ◌+◌, ◌≤◌, Bool, true, false, if◌then◌else◌, List, [], ◌∷◌, ◌++◌, refl, sym, ap, ◌∙◌, subst, arith}
use Rattle.rh_sig.specs.declared.named.Named.TheVariants as named
use Rattle.law_moves.proofs.Vocabulary.{same_number, Cookie, Named, Message, Text, Pdu, Packet, count_of, HasOne}
use Rattle.law_moves.proofs.Lemmas.{count_append}
use Rattle.law_role_server.proofs.Vocabulary.{is_ack_to, is_in_r1_a3, is_in_r2_a3}
use Rattle.law_peers_room.specs.OutRoom.Waits.{AcksFor, behind, is_in_a3}
use Rattle.law_peers_room.specs.ServerRoom.Overtaking.{is_ack_for}
use Rattle.law_peers_forwarding.proofs.ServerFull.Longest.{for_itself, is_for}

-- ---- the first and the last that pass a test

module _ (test : Named → Bool) where
  pub record First (ms : List Message) : Type 0 where
    pub front : List Message
    pub it : Named
    pub rest : List Message
    pub is : ms ≡ front ++ Packet it ∷ rest
    pub passes : test it ≡ true
    pub none : count_of test front ≡ 0

  first_over : (m : Message) (ms : List Message)
      → ((more : List Message) → count_of test (m ∷ more) ≡ count_of test more)
      → (count_of test ms ≡ 0) ⊎ First ms → (count_of test (m ∷ ms) ≡ 0) ⊎ First (m ∷ ms)
  first_over m ms over (inl none) = inl (over ms ∙ none)
  first_over m ms over (inr found) = inr (record {
    front = m ∷ found.front;
    it = found.it;
    rest = found.rest;
    is = ap (λ (all : List Message). m ∷ all) found.is;
    passes = found.passes;
    none = over found.front ∙ found.none;
  })

  counted : (m : Named) (b : Bool) → test m ≡ b → (more : List Message)
      → count_of test (Packet m ∷ more)
      ≡ (if b then suc (count_of test more) else count_of test more)
  counted m b e more =
      ap (λ (t : Bool). if t then suc (count_of test more) else count_of test more) e

  pub first_that : (ms : List Message) → (count_of test ms ≡ 0) ⊎ First ms
  first_that [] = inl refl
  first_that (Text bytes ∷ ms) = first_over (Text bytes) ms (λ more. refl) (first_that ms)
  first_that (Pdu pdu ∷ ms) = first_over (Pdu pdu) ms (λ more. refl) (first_that ms)
  first_that (Packet m ∷ ms) = by (test m) refl (first_that ms)
    where
      by : (b : Bool) → test m ≡ b → (count_of test ms ≡ 0) ⊎ First ms
          → (count_of test (Packet m ∷ ms) ≡ 0) ⊎ First (Packet m ∷ ms)
      by true e found = inr (record {
        front = [];
        it = m;
        rest = ms;
        is = refl;
        passes = e;
        none = refl;
      })
      by false e found = first_over (Packet m) ms (counted m false e) found

  pub record Last (ms : List Message) : Type 0 where
    pub front : List Message
    pub it : Named
    pub rest : List Message
    pub is : ms ≡ front ++ Packet it ∷ rest
    pub passes : test it ≡ true
    pub none : count_of test rest ≡ 0

  last_over : (m : Message) (ms : List Message) → Last ms → Last (m ∷ ms)
  last_over m ms found = record {
    front = m ∷ found.front;
    it = found.it;
    rest = found.rest;
    is = ap (λ (all : List Message). m ∷ all) found.is;
    passes = found.passes;
    none = found.none;
  }

  last_step : (m : Named) (ms : List Message) → test m ≡ true
      → (count_of test ms ≡ 0) ⊎ Last ms → Last (Packet m ∷ ms)
  last_step m ms is (inl none) = record {
    front = [];
    it = m;
    rest = ms;
    is = refl;
    passes = is;
    none = none;
  }
  last_step m ms is (inr found) = last_over (Packet m) ms found

  last_that : (ms : List Message) → (count_of test ms ≡ 0) ⊎ Last ms
  last_that [] = inl refl
  last_that (Text bytes ∷ ms) = by (last_that ms)
    where
      by : (count_of test ms ≡ 0) ⊎ Last ms
          → (count_of test ms ≡ 0) ⊎ Last (Text bytes ∷ ms)
      by (inl none) = inl none
      by (inr found) = inr (last_over (Text bytes) ms found)
  last_that (Pdu pdu ∷ ms) = by (last_that ms)
    where
      by : (count_of test ms ≡ 0) ⊎ Last ms → (count_of test ms ≡ 0) ⊎ Last (Pdu pdu ∷ ms)
      by (inl none) = inl none
      by (inr found) = inr (last_over (Pdu pdu) ms found)
  last_that (Packet m ∷ ms) = by (test m) refl (last_that ms)
    where
      by : (b : Bool) → test m ≡ b → (count_of test ms ≡ 0) ⊎ Last ms
          → (count_of test (Packet m ∷ ms) ≡ 0) ⊎ Last (Packet m ∷ ms)
      by true e found = inr (last_step m ms e found)
      by false e (inl none) = inl (counted m false e ms ∙ none)
      by false e (inr found) = inr (last_over (Packet m) ms found)

  pub last_behind : (m : Named) (ms : List Message) → test m ≡ true → Last (Packet m ∷ ms)
  last_behind m ms is = last_step m ms is (last_that ms)

-- ---- counts

module _ (test other : Named → Bool) (so : (m : Named) → test m ≡ true → other m ≡ true) where
  pub counts_fewer : (ms : List Message) → count_of test ms ≤ count_of other ms
  counts_fewer [] = omega arith
  counts_fewer (Text bytes ∷ ms) = counts_fewer ms
  counts_fewer (Pdu pdu ∷ ms) = counts_fewer ms
  counts_fewer (Packet m ∷ ms) = by (test m) (other m) (so m) (counts_fewer ms)
    where
      by : (a b : Bool) → (a ≡ true → b ≡ true) → count_of test ms ≤ count_of other ms
          → (if a then suc (count_of test ms) else count_of test ms)
          ≤ (if b then suc (count_of other ms) else count_of other ms)
      by true true then_so rest = omega (arith, rest)
      by true false then_so rest = let no = then_so refl in absurd cc
      by false true then_so rest = omega (arith, rest)
      by false false then_so rest = rest

-- an acknowledgement for a channel is one to the client
pub acks_client : (cookie : Cookie) (m : Named) → is_ack_for cookie m ≡ true
    → is_ack_to 0 m ≡ true
acks_client cookie m e =
    let is = is_for cookie m e in ap (is_ack_to 0) is.2

for_channel : (cookie : Cookie) (m : Named) → AcksFor cookie m → is_ack_for cookie m ≡ true
for_channel cookie (named.AckTo to received window of) is =
    ap (λ (n : ℕ). is_ack_for cookie (named.AckTo n received window of)) is.0
    ∙ ap (λ (c : Cookie). is_ack_for cookie (named.AckTo 0 received window c)) is.1
    ∙ for_itself received window cookie
for_channel cookie m is = absurd is

pub acked_counts : (cookie : Cookie) (ms : List Message) → HasOne (AcksFor cookie) ms
    → 1 ≤ count_of (is_ack_for cookie) ms
acked_counts cookie [] has = absurd has
acked_counts cookie (Text bytes ∷ ms) has = acked_counts cookie ms has
acked_counts cookie (Pdu pdu ∷ ms) has = acked_counts cookie ms has
acked_counts cookie (Packet m ∷ ms) (inl is) =
    subst (λ (n : ℕ). 1 ≤ n)
    (sym (counted (is_ack_for cookie) m true (for_channel cookie m is) ms)) (omega arith)
acked_counts cookie (Packet m ∷ ms) (inr has) =
    by (is_ack_for cookie m) (acked_counts cookie ms has)
  where
    by : (b : Bool) → 1 ≤ count_of (is_ack_for cookie) ms
        → 1 ≤ (if b then suc (count_of (is_ack_for cookie) ms)
        else count_of (is_ack_for cookie) ms)
    by true rest = omega arith
    by false rest = rest

-- IN_R1/A3 and IN_R2/A3 together
pub both_answers : (ms : List Message)
    → count_of is_in_r1_a3 ms + count_of is_in_r2_a3 ms ≡ count_of is_in_a3 ms
both_answers [] = refl
both_answers (Text bytes ∷ ms) = both_answers ms
both_answers (Pdu pdu ∷ ms) = both_answers ms
both_answers (Packet (named.InR1A3 to version window timeout) ∷ ms) =
    let rest = both_answers ms in omega (arith, rest)
both_answers (Packet (named.InR2A3 to) ∷ ms) =
    let rest = both_answers ms in omega (arith, rest)
both_answers (Packet m ∷ ms) = both_answers ms

-- ---- what a packet is not

pub no_in_r1_a3 : (m : Named) → is_ack_to 0 m ≡ true → count_of is_in_r1_a3 (Packet m ∷ []) ≡ 0
no_in_r1_a3 (named.AckTo to received window cookie) e = refl
no_in_r1_a3 m e = absurd cc

pub no_in_r2_a3 : (m : Named) → is_ack_to 0 m ≡ true → count_of is_in_r2_a3 (Packet m ∷ []) ≡ 0
no_in_r2_a3 (named.AckTo to received window cookie) e = refl
no_in_r2_a3 m e = absurd cc

pub not_to_proxy : (m : Named) → is_ack_to 0 m ≡ true → is_ack_to 3 m ≡ false
not_to_proxy (named.AckTo to received window cookie) e =
    ap (λ (n : ℕ). is_ack_to 3 (named.AckTo n received window cookie)) (same_number to 0 e)
not_to_proxy m e = absurd cc

pub r1_is_written : (m : Named) → is_in_r1_a3 m ≡ true → is_ack_to 3 m ≡ false
r1_is_written (named.InR1A3 to version window timeout) e = refl
r1_is_written m e = absurd cc

pub r2_is_written : (m : Named) → is_in_r2_a3 m ≡ true → is_ack_to 3 m ≡ false
r2_is_written (named.InR2A3 to) e = refl
r2_is_written m e = absurd cc

-- ---- behind the first of some

module _ (stop test : Named → Bool) where
  rises : (k : ℕ) (ms more : List Message)
      → count_of test (behind stop k ms) ≤ count_of test (behind stop k (ms ++ more))
  rises zero ms more = let all = count_append test ms more in omega (arith, all)
  rises (suc k) [] more = omega arith
  rises (suc k) (Text bytes ∷ ms) more = rises (suc k) ms more
  rises (suc k) (Pdu pdu ∷ ms) more = rises (suc k) ms more
  rises (suc k) (Packet m ∷ ms) more =
      by (stop m) (rises k ms more) (rises (suc k) ms more)
    where
      by : (b : Bool)
          → count_of test (behind stop k ms) ≤ count_of test (behind stop k (ms ++ more))
          → count_of test (behind stop (suc k) ms)
          ≤ count_of test (behind stop (suc k) (ms ++ more))
          → count_of test (if b then behind stop k ms else behind stop (suc k) ms)
          ≤ count_of test (if b then behind stop k (ms ++ more)
          else behind stop (suc k) (ms ++ more))
      by true one other = one
      by false one other = other

pub behind_rises : (stop test : Named → Bool) (k : ℕ) (ms more : List Message)
    → count_of test (behind stop k ms) ≤ count_of test (behind stop k (ms ++ more))
behind_rises stop test k ms more = rises stop test k ms more
