-- packets before the first that passes a test, with more messages
use Rattle.law_order.proofs.Vocabulary.{◌≡◌, ℕ, suc, ◌+◌, ◌≤◌, nat_lt, Bool, true, false, true≢false, if◌then◌else◌, List, [], ◌∷◌, ◌++◌, refl, sym, ap, ◌∙◌, arith}
use Rattle.law_moves.proofs.Vocabulary.{by_test, Named, AckTo, Due, Message, Text, Pdu, Packet, key_of, are_one, better, edge_of, merged, takes, count_of}
use Rattle.law_moves.proofs.Lemmas.{IsNoAck}
use Rattle.law_peers_room.proofs.OutRoom.Merging.{no_key}
use Rattle.law_peers_room.specs.OutRoom.Waits.{behind, packets_of}
use Rattle.law_peers_forwarding.specs.Answering.Passing.{count_until}

module _ (test stop : Named → Bool) where
  abbrev until : List Message → ℕ
  until ms = count_until test stop ms

  pub until_rises : (a b : List Message) → until a ≤ until (a ++ b)
  until_rises [] b = omega arith
  until_rises (Text bytes ∷ a) b = until_rises a b
  until_rises (Pdu pdu ∷ a) b = until_rises a b
  until_rises (Packet m ∷ a) b = by (stop m) (test m) (until_rises a b)
    where
      by : (s t : Bool) → until a ≤ until (a ++ b)
          → (if s then 0 else if t then suc (until a) else until a)
          ≤ (if s then 0 else if t then suc (until (a ++ b)) else until (a ++ b))
      by true t rest = omega arith
      by false true rest = omega (arith, rest)
      by false false rest = rest

  pub until_on : (a b : List Message) → count_of stop a ≡ 0 → until (a ++ b) ≡ until a + until b
  until_on [] b none = omega arith
  until_on (Text bytes ∷ a) b none = until_on a b none
  until_on (Pdu pdu ∷ a) b none = until_on a b none
  until_on (Packet m ∷ a) b none = by (stop m) (test m) none (until_on a b)
    where
      by : (s t : Bool) → (if s then suc (count_of stop a) else count_of stop a) ≡ 0
          → (count_of stop a ≡ 0 → until (a ++ b) ≡ until a + until b)
          → (if s then 0 else if t then suc (until (a ++ b)) else until (a ++ b))
          ≡ (if s then 0 else if t then suc (until a) else until a) + until b
      by true t none rest = absurd (omega (arith, none))
      by false true none rest = let more = rest none in omega (arith, more)
      by false false none rest = rest none

  pub until_over : (a b : List Message) → 1 ≤ count_of stop a → until (a ++ b) ≡ until a
  until_over [] b one = absurd (omega (arith, one))
  until_over (Text bytes ∷ a) b one = until_over a b one
  until_over (Pdu pdu ∷ a) b one = until_over a b one
  until_over (Packet m ∷ a) b one = by (stop m) (test m) one (until_over a b)
    where
      by : (s t : Bool) → 1 ≤ (if s then suc (count_of stop a) else count_of stop a)
          → (1 ≤ count_of stop a → until (a ++ b) ≡ until a)
          → (if s then 0 else if t then suc (until (a ++ b)) else until (a ++ b))
          ≡ (if s then 0 else if t then suc (until a) else until a)
      by true t one rest = refl
      by false true one rest = ap suc (rest one)
      by false false one rest = rest one

  -- one more that passes neither
  here : (m : Message) (b : List Message) → count_of test (m ∷ []) ≡ 0
      → count_of stop (m ∷ []) ≡ 0 → until (m ∷ b) ≡ until b
  here (Text bytes) b none other = refl
  here (Pdu pdu) b none other = refl
  here (Packet m) b none other = by (stop m) (test m) none other
    where
      by : (s t : Bool) → (if t then suc (count_of test []) else count_of test []) ≡ 0
          → (if s then suc (count_of stop []) else count_of stop []) ≡ 0
          → (if s then 0 else if t then suc (until b) else until b) ≡ until b
      by true t none other = absurd (omega (arith, other))
      by false true none other = absurd (omega (arith, none))
      by false false none other = refl

  pub until_between : (a : List Message) (m : Message) (b : List Message)
      → count_of test (m ∷ []) ≡ 0 → count_of stop (m ∷ []) ≡ 0
      → until (a ++ m ∷ b) ≡ until (a ++ b)
  until_between [] m b none other = here m b none other
  until_between (Text bytes ∷ a) m b none other = until_between a m b none other
  until_between (Pdu pdu ∷ a) m b none other = until_between a m b none other
  until_between (Packet named ∷ a) m b none other =
      ap (λ (k : ℕ). if stop named then 0 else if test named then suc k else k)
      (until_between a m b none other)

  -- with others behind
  pub until_behind : (a b c : List Message) → until b ≡ until c → until (a ++ b) ≡ until (a ++ c)
  until_behind [] b c same = same
  until_behind (Text bytes ∷ a) b c same = until_behind a b c same
  until_behind (Pdu pdu ∷ a) b c same = until_behind a b c same
  until_behind (Packet named ∷ a) b c same =
      ap (λ (k : ℕ). if stop named then 0 else if test named then suc k else k)
      (until_behind a b c same)

-- ---- what waits

pub packets_more : (dues : List Due) (due : Due)
    → packets_of (dues ++ due ∷ []) ≡ packets_of dues ++ Packet due.packet ∷ []
packets_more [] due = refl
packets_more (first ∷ dues) due =
    ap (λ (ms : List Message). Packet first.packet ∷ ms) (packets_more dues due)

module _ (test : Named → Bool) (none : IsNoAck test) where
  taken_same : (one other : Named) → are_one (key_of one) (key_of other) ≡ true
      → test one ≡ test other
  taken_same (AckTo to received available of) (AckTo next bytes window channel) e =
      none to received available of ∙ sym (none next bytes window channel)
  taken_same (AckTo to received available of) m e = absurd (true≢false (sym e))
  taken_same one m e = by m e
    where
      by : (m : Named) → are_one (key_of one) (key_of m) ≡ true → test one ≡ test m
      by m e = absurd (no_key (key_of one) e)

  better_same : (due : Due) (m : Named) → takes m due ≡ true
      → test due.packet ≡ test (better due m).packet
  better_same due m e =
      by_test (λ (d : Due). test due.packet ≡ test d.packet)
      (nat_lt (edge_of m) (edge_of due.packet)) due
      (record { packet = m; origin = due.origin }) (λ f. refl)
      (λ f. taken_same due.packet m e)

  pub merged_count : (dues : List Due) (m : Named)
      → count_of test (packets_of (merged dues m)) ≡ count_of test (packets_of dues)
  merged_count [] m = refl
  merged_count (due ∷ dues) m =
      let rest = merged_count dues m in
      by_test (λ (ds : List Due). count_of test (packets_of ds)
      ≡ count_of test (packets_of (due ∷ dues))) (takes m due) (better due m ∷ dues)
      (due ∷ merged dues m)
      (λ e. ap (λ (t : Bool). if t then suc (count_of test (packets_of dues))
      else count_of test (packets_of dues)) (sym (better_same due m e)))
      (λ e. ap (λ (k : ℕ). if test due.packet then suc k else k) rest)

module _ (test stop : Named → Bool) (none : IsNoAck test) (other : IsNoAck stop) where
  pub merged_until : (dues : List Due) (m : Named)
      → count_until test stop (packets_of (merged dues m))
      ≡ count_until test stop (packets_of dues)
  merged_until [] m = refl
  merged_until (due ∷ dues) m =
      let k = count_until test stop (packets_of dues) in
      let rest = merged_until dues m in
      by_test (λ (ds : List Due). count_until test stop (packets_of ds)
      ≡ count_until test stop (packets_of (due ∷ dues))) (takes m due) (better due m ∷ dues)
      (due ∷ merged dues m)
      (λ e. ap (λ (t : Bool). if t then 0 else if test (better due m).packet then suc k else k)
      (sym (better_same stop other due m e))
      ∙ ap (λ (t : Bool). if stop due.packet then 0 else if t then suc k else k)
      (sym (better_same test none due m e)))
      (λ e. ap (λ (i : ℕ). if stop due.packet then 0 else if test due.packet then suc i else i)
      rest)

-- ---- before the first and behind it

module _ (test stop : Named → Bool) where
  pub until_all : (ms : List Message) → count_of stop ms ≡ 0
      → count_until test stop ms ≡ count_of test ms
  until_all [] none = refl
  until_all (Text bytes ∷ ms) none = until_all ms none
  until_all (Pdu pdu ∷ ms) none = until_all ms none
  until_all (Packet m ∷ ms) none = by (stop m) (test m) none (until_all ms)
    where
      by : (s t : Bool) → (if s then suc (count_of stop ms) else count_of stop ms) ≡ 0
          → (count_of stop ms ≡ 0 → count_until test stop ms ≡ count_of test ms)
          → (if s then 0 else if t then suc (count_until test stop ms)
          else count_until test stop ms)
          ≡ (if t then suc (count_of test ms) else count_of test ms)
      by true t none rest = absurd (omega (arith, none))
      by false true none rest = ap suc (rest none)
      by false false none rest = rest none

  pub until_split : ((m : Named) → stop m ≡ true → test m ≡ false) → (ms : List Message)
      → count_of test ms ≡ count_until test stop ms + count_of test (behind stop 1 ms)
  until_split apart [] = refl
  until_split apart (Text bytes ∷ ms) = until_split apart ms
  until_split apart (Pdu pdu ∷ ms) = until_split apart ms
  until_split apart (Packet m ∷ ms) =
      by (stop m) (test m) (apart m) (until_split apart ms)
    where
      by : (s t : Bool) → (s ≡ true → t ≡ false)
          → count_of test ms ≡ count_until test stop ms + count_of test (behind stop 1 ms)
          → (if t then suc (count_of test ms) else count_of test ms)
          ≡ (if s then 0 else if t then suc (count_until test stop ms)
          else count_until test stop ms)
          + count_of test (if s then ms else behind stop 1 ms)
      by true true apart rest = absurd (true≢false (apart refl))
      by true false apart rest = omega arith
      by false true apart rest = omega (arith, rest)
      by false false apart rest = rest
