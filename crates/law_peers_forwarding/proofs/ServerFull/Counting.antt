-- no more acknowledgements to the client wait than there are numbers of their channels
use Rattle.law_order.proofs.Vocabulary.{◌≡◌, ◌⊎◌, inl, inr, ℕ, suc, ◌≤◌, Bool, true, false, if◌then◌else◌, List, [], ◌∷◌, ◌++◌, length, refl, sym, ap, ◌∙◌, subst, arith}
use Rattle.rh_sig.specs.declared.named.Named.TheVariants as named
use Rattle.law_moves.proofs.Vocabulary.{same_number, Cookie, Named, Due, BeginsIn, HasOne, EndMove, of_leg}
use Rattle.law_role_client.proofs.Vocabulary.{ci, NamesIns}
use Rattle.law_role_server.proofs.Vocabulary.{is_ack_to, waiting_of}
use Rattle.law_peers_moments.specs.Moments.{Moves, Numbers, client_behind, server_behind}
use Rattle.law_peers_room.specs.ServerRoom.Forwarding.{ForwardsAcks}
use Rattle.law_peers_room.specs.ServerRoom.Overtaking.{is_ack_for}
use Rattle.law_peers_forwarding.proofs.ServerFull.Longest.{first_is, for_itself, one_more}
use Rattle.law_peers_forwarding.specs.ServerFull.Few.{IsAmong, NoMoreWait}
use Rattle.law_peers_forwarding.specs.ServerFull.Numbered.{AreLate, IsLate}
use Rattle.law_peers_forwarding.specs.ServerFull.Oldest.{Oldest}

-- ---- one less

pub record Less (n : ℕ) (all : List ℕ) : Type 0 where
  pub others : List ℕ
  pub one : length all ≡ suc (length others)
  pub each : (k : ℕ) → (k ≡ n → ⊥) → IsAmong k all → IsAmong k others

pub less : (n : ℕ) (all : List ℕ) → IsAmong n all → Less n all
less n [] h = absurd h
less n (first ∷ all) (inl same) =
    record { others = all; one = refl; each = λ k apart is. by k apart is }
  where
    by : (k : ℕ) → (k ≡ n → ⊥) → (k ≡ first) ⊎ IsAmong k all → IsAmong k all
    by k apart (inl is) = absurd (apart (is ∙ sym same))
    by k apart (inr is) = is
less n (first ∷ all) (inr h) = more (less n all h)
  where
    more : Less n all → Less n (first ∷ all)
    more rest = record {
      others = first ∷ rest.others;
      one = ap suc rest.one;
      each = λ k apart is. by k apart is;
    }
      where
        by : (k : ℕ) → (k ≡ n → ⊥) → (k ≡ first) ⊎ IsAmong k all
            → (k ≡ first) ⊎ IsAmong k rest.others
        by k apart (inl is) = inl is
        by k apart (inr is) = inr (rest.each k apart is)

-- ---- as many numbers as wait

-- an acknowledgement to the client is for a channel
for_some : (m : Named) → is_ack_to 0 m ≡ true
    → (channel : Cookie) × (is_ack_for channel m ≡ true)
for_some (named.AckTo to received window channel) e = (
  channel,
  ap (λ (n : ℕ). is_ack_for channel (named.AckTo n received window channel))
      (same_number to 0 e) ∙ for_itself received window channel,
)
for_some m e = absurd cc

module _ (Is : Cookie → ℕ → Type 0)
    (own : (n : ℕ) (a b : Cookie) → Is a n → Is b n → a ≡ b) where
  -- it has a number among these
  abbrev HasNumber : List ℕ → Cookie → Type 0
  HasNumber all channel = (n : ℕ) × Is channel n × IsAmong n all

  abbrev HaveNumbers : List ℕ → List Due → Type 0
  HaveNumbers all dues =
      (channel : Cookie) → 1 ≤ waiting_of (is_ack_for channel) dues → HasNumber all channel

  abbrev AreOnce : List Due → Type 0
  AreOnce dues = (channel : Cookie) → waiting_of (is_ack_for channel) dues ≤ 1

  -- without the number of a channel for which none waits
  without : (dues : List Due) (all : List ℕ) (channel : Cookie)
      → waiting_of (is_ack_for channel) dues ≡ 0 → (n : ℕ) → Is channel n → (rest : Less n all)
      → HaveNumbers all dues → HaveNumbers rest.others dues
  without dues all channel none n is rest have other some =
      let found = have other some in
      (found.0, found.1, rest.each found.0 (λ same. absurd (apart found.0 found.1 same)) found.2)
    where
      apart : (k : ℕ) → Is other k → k ≡ n → ⊥
      apart k of same =
          let are : other ≡ channel = own n other channel (subst (Is other) same of) is in
          let waits : 1 ≤ waiting_of (is_ack_for channel) dues =
          subst (λ (c : Cookie). 1 ≤ waiting_of (is_ack_for c) dues) are some in
          absurd (omega (arith, waits, none))

  pub no_more : (dues : List Due) (all : List ℕ) → AreOnce dues → HaveNumbers all dues
      → waiting_of (is_ack_to 0) dues ≤ length all
  no_more [] all once have = omega arith
  no_more (due ∷ dues) all once have =
      by (is_ack_to 0 due.packet) refl
      (λ these each. no_more dues these
      (λ channel. fewer channel (once channel)) each)
    where
      fewer : (channel : Cookie) → waiting_of (is_ack_for channel) (due ∷ dues) ≤ 1
          → waiting_of (is_ack_for channel) dues ≤ 1
      fewer channel = at (is_ack_for channel due.packet)
        where
          at : (b : Bool)
              → (if b then suc (waiting_of (is_ack_for channel) dues)
              else waiting_of (is_ack_for channel) dues) ≤ 1
              → waiting_of (is_ack_for channel) dues ≤ 1
          at true h = omega (arith, h)
          at false h = h

      behind : HaveNumbers all dues
      behind channel some = have channel (one_more channel due dues some)

      by : (b : Bool) → is_ack_to 0 due.packet ≡ b
          → ((these : List ℕ) → HaveNumbers these dues
          → waiting_of (is_ack_to 0) dues ≤ length these)
          → (if b then suc (waiting_of (is_ack_to 0) dues) else waiting_of (is_ack_to 0) dues)
          ≤ length all
      by false e rest = rest all behind
      by true e rest =
          let one = for_some due.packet e in
          let found = have one.0 (first_is one.0 due dues one.1) in
          let others = less found.0 all found.2 in
          let most = rest others.others
          (without dues all one.0 (none one.0 one.1) found.0 found.1 others behind) in
          let same = others.one in omega (arith, most, same)
        where
          none : (channel : Cookie) → is_ack_for channel due.packet ≡ true
              → waiting_of (is_ack_for channel) dues ≡ 0
          none channel is =
              let most : suc (waiting_of (is_ack_for channel) dues) ≤ 1 =
              subst (λ (b : Bool). (if b then suc (waiting_of (is_ack_for channel) dues)
              else waiting_of (is_ack_for channel) dues) ≤ 1) is (once channel) in
              omega (arith, most)

  -- and one more has a number
  pub one_less : (dues : List Due) (all : List ℕ) (channel : Cookie)
      → waiting_of (is_ack_for channel) dues ≡ 0 → HasNumber all channel → AreOnce dues
      → HaveNumbers all dues → suc (waiting_of (is_ack_to 0) dues) ≤ length all
  one_less dues all channel none found once have =
      let others = less found.0 all found.2 in
      let most = no_more dues others.others once
      (without dues all channel none found.0 found.1 others have) in
      let same = others.one in omega (arith, most, same)

-- ---- the law

module _ (numbers : Numbers) (reader : ℕ → ℕ) (moves : Moves)
    (late : (front later : List EndMove) → moves.server ≡ front ++ later
    → AreLate numbers reader moves front)
    (names : NamesIns numbers.client.connection (client_behind numbers moves).passage)
    (forwards : ForwardsAcks (server_behind numbers moves).passage.role) where
  abbrev Begins : Cookie → ℕ → Type 0
  Begins channel n =
      HasOne (BeginsIn channel) (of_leg (ci n) (client_behind numbers moves).passage.put)

  own : (n : ℕ) (a b : Cookie) → Begins a n → Begins b n → a ≡ b
  own n a b one other = names.one n a b one other

  pub few_wait : (oldest : Oldest numbers.window moves.server)
      → NoMoreWait numbers reader moves oldest.front
  few_wait oldest =
      record {
        waiting = λ channels each.
            no_more Begins own dues channels (forwards.once 0) (have channels each);
        next = λ channels each n received window channel ahead none.
            one_less Begins own dues channels channel none
            (let one = are.ahead n received window channel ahead in
            (one.number, one.is.begun, each channel one)) (forwards.once 0) (have channels each);
      }
    where
      are : AreLate numbers reader moves oldest.front
      are = late oldest.front (oldest.move ∷ oldest.later) oldest.is

      dues : List Due
      dues = (server_behind numbers moves).passage.role.waiting.due

      have : (channels : List ℕ)
          → ((channel : Cookie) (one : IsLate numbers reader moves oldest.front channel)
          → IsAmong one.number channels)
          → (channel : Cookie) → 1 ≤ waiting_of (is_ack_for channel)
          (server_behind numbers moves).passage.role.waiting.due
          → (n : ℕ) × Begins channel n × IsAmong n channels
      have channels each channel some =
          let one = (late oldest.front (oldest.move ∷ oldest.later) oldest.is).came channel
          (oldest.since channel some) in (one.number, one.is.begun, each channel one)
