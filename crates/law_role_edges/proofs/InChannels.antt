-- of which channels an in proxy tells the server, kind by kind
use Rattle.law_order.proofs.Vocabulary.{◌≡◌, ℕ, ◌+◌, ◌&&◌, Bool, true, false, not, if◌then◌else◌, List, Some, None, refl, sym, ap, arith, nat_tests, Option}
use Rattle.rh_sig.specs.declared.named.Named.TheVariants as named
use Rattle.rh_inproxy.specs.Opening.{connects}
use Rattle.rh_inproxy.specs.declared.state.Opening.TheVariants as openings
use Rattle.rh_inproxy.specs.declared.state.Successor.TheVariants as successors
use Rattle.law_moves.proofs.Vocabulary.{Cookie, Named, Leg, ClientIn, Move, Passage, started, all_moved, is_of, one_if, of_leg, of_kind, count_of, is_conn_b1, is_conn_b2, is_in_r1_a1, is_in_a2}
use Rattle.law_role_inproxy.proofs.Vocabulary.{Entry, Connects, Replaces, InProxyConfig, TellsServer, Told, Follows, Opener, Opening, Successor, InProxy, first, rules as proxy_rules, is_connection, is_leg, ci, ci_leg}
use Rattle.law_role_inproxy.proofs.Counted.InProxyOwes.{announced}
use Rattle.law_role_edges.proofs.InOpens.{in_opens, opening_owes, successor_owes}
use Rattle.law_role_edges.proofs.InOwing.{Leads}
use Rattle.law_role_edges.proofs.Sums.{at, kind_counts, later_counts, leg_counts}
use Rattle.law_role_edges.specs.Openings.{JoinsAll, OpensAll, first_due, is_in_r1_a2, is_in_r2_a2, is_later, joins, of_later, replaces}

-- ---- kinds

connection_leads : (n : ℕ) → Leads n (is_of ClientIn) is_conn_b1 is_conn_b2
connection_leads n = grind arith

all_leads : (n : ℕ) (of : Cookie → Bool) → Leads n (is_of ClientIn) (is_in_r1_a1 of) (is_in_a2 of)
all_leads n of = grind arith

same_ci : (n : ℕ) → at (ci_leg n) (ci_leg n) ≡ true
same_ci n = grind (arith, nat_tests)

other_ci : (n k : ℕ) → (k ≡ n → ⊥) → at (ci_leg n) (ci_leg k) ≡ false
other_ci n k other = grind (arith, nat_tests)

no_later : (n : ℕ) → is_later n (ci_leg n) ≡ false
no_later n = grind (arith, nat_tests)

a_later : (n k : ℕ) → (k ≡ n → ⊥) → is_later n (ci_leg k) ≡ true
a_later n k other = grind (arith, nat_tests)

if_none : (t : Bool) (k : ℕ) → k ≡ 0 → (if t then k else 0) ≡ 0
if_none true k e = e
if_none false k e = refl

if_so : (t : Bool) (k : ℕ) → t ≡ true → (if t then k else 0) ≡ k
if_so t k e = ap (λ (b : Bool). if b then k else 0) e

if_not : (t : Bool) (k : ℕ) → t ≡ false → (if t then k else 0) ≡ 0
if_not t k e = ap (λ (b : Bool). if b then k else 0) e

first_leads : (n : ℕ) (of : Cookie → Bool)
    → Leads n (at (ci_leg n)) (is_in_r1_a1 of) (is_in_r1_a2 of)
first_leads n of = record {
  connects = λ version lifetime keepalive window timeout connection channel group address padding.
      if_none (at (ci_leg n) (ci_leg n)) 0 refl;
  replaces = λ version window timeout connection predecessor channel.
      if_so (at (ci_leg n) (ci_leg n)) (one_if (of channel)) (same_ci n);
  joins = λ k version connection predecessor channel other.
      if_not (at (ci_leg n) (ci_leg k)) (one_if (of channel)) (other_ci n k other);
  ack_to = λ to received available channel. refl;
  out_r1_a7 = λ to successor. refl;
  keep_alive = λ keepalive. refl;
  end_a1 = refl;
  in_r1_a5 = λ successor. refl;
  conn_b3 = λ window version. refl;
  in_r1_b2 = λ window. refl;
  in_r1_b1 = refl;
  ack = λ received available channel. refl;
  no_acks = λ to received available channel. refl;
  out_r1_a8 = λ successor. refl;
  in_r1_a6 = λ successor. refl;
  end_a2 = refl;
  pings = refl;
}

later_leads : (n : ℕ) (of : Cookie → Bool)
    → Leads n (is_later n) (is_in_r1_a1 of) (is_in_r2_a2 of)
later_leads n of = record {
  connects = λ version lifetime keepalive window timeout connection channel group address padding.
      if_none (is_later n (ci_leg n)) 0 refl;
  replaces = λ version window timeout connection predecessor channel.
      if_not (is_later n (ci_leg n)) (one_if (of channel)) (no_later n);
  joins = λ k version connection predecessor channel other.
      if_so (is_later n (ci_leg k)) (one_if (of channel)) (a_later n k other);
  ack_to = λ to received available channel. refl;
  out_r1_a7 = λ to successor. refl;
  keep_alive = λ keepalive. refl;
  end_a1 = refl;
  in_r1_a5 = λ successor. refl;
  conn_b3 = λ window version. refl;
  in_r1_b2 = λ window. refl;
  in_r1_b1 = refl;
  ack = λ received available channel. refl;
  no_acks = λ to received available channel. refl;
  out_r1_a8 = λ successor. refl;
  in_r1_a6 = λ successor. refl;
  end_a2 = refl;
  pings = refl;
}

-- ---- what is owed

module _ (n : ℕ) (on : Leg → Bool) (test put : Named → Bool) (leads : Leads n on test put)
    (config : InProxyConfig) where
  opening_by : (value : Option Opener → ℕ) → value None ≡ 0
      → ((o : Opener) → one_if (put (announced config o o.entry)) ≡ value (Some o))
      → (z : Opening) → opening_owes n on test put leads config z ≡ value (first_due z)
  opening_by value none some openings.AwaitsClient = sym none
  opening_by value none some openings.AwaitsPacket = sym none
  opening_by value none some (openings.WantsServer o) = some o
  opening_by value none some (openings.Announces o) = some o
  opening_by value none some (openings.Announced o) = sym none

  successor_by : (of : Cookie → Bool) → ((cookie : Cookie) → put (named.InR2A2 cookie) ≡ of cookie)
      → (z : Successor) → successor_owes n on test put leads z ≡ one_if (joins of z)
  successor_by of is successors.Absent = refl
  successor_by of is (successors.Up number) = refl
  successor_by of is (successors.Joined leg Told) = refl
  successor_by of is (successors.Joined leg Follows) = refl
  successor_by of is (successors.Joined leg (TellsServer behind)) = ap one_if (is leg.cookie)

  successor_none : ((cookie : Cookie) → put (named.InR2A2 cookie) ≡ false) → (z : Successor)
      → successor_owes n on test put leads z ≡ 0
  successor_none is successors.Absent = refl
  successor_none is (successors.Up number) = refl
  successor_none is (successors.Joined leg Told) = refl
  successor_none is (successors.Joined leg Follows) = refl
  successor_none is (successors.Joined leg (TellsServer behind)) = ap one_if (is leg.cookie)

module _ (config : InProxyConfig) (of : Cookie → Bool) (o : Opener) where
  b2_is : (entry : Entry)
      → one_if (is_conn_b2 (announced config o entry)) ≡ one_if (connects entry)
  b2_is (Connects group) = refl
  b2_is (Replaces predecessor) = refl

  a2_is : (entry : Entry) → one_if (is_in_r1_a2 of (announced config o entry))
      ≡ one_if (not (connects entry) && of o.channel)
  a2_is (Connects group) = refl
  a2_is (Replaces predecessor) = refl

  either_is : (entry : Entry) → one_if (is_in_a2 of (announced config o entry))
      ≡ one_if (not (connects entry) && of o.channel)
  either_is (Connects group) = refl
  either_is (Replaces predecessor) = refl

  r2_is : (entry : Entry) → one_if (is_in_r2_a2 of (announced config o entry)) ≡ 0
  r2_is (Connects group) = refl
  r2_is (Replaces predecessor) = refl

-- ---- the laws

module _ (config : InProxyConfig) (moves : List Move) where
  abbrev p : Passage InProxy
  p = all_moved proxy_rules (started (first config)) moves

  abbrev n : ℕ
  n = config.number

  abbrev is : Leg
  is = is_leg n

  connection : count_of is_conn_b1 (of_kind ClientIn p.came)
      ≡ count_of is_conn_b2 (of_leg is p.put)
      + one_if (is_connection (first_due p.role.opening))
  connection =
      let leads = connection_leads n in
      let all = in_opens config (is_of ClientIn) is_conn_b1 is_conn_b2 leads moves in
      let came = kind_counts ClientIn is_conn_b1 p.came in
      let put = leg_counts is is_conn_b2 p.put in
      let first = opening_by n (is_of ClientIn) is_conn_b1 is_conn_b2 leads p.role.config
      (λ (x : Option Opener). one_if (is_connection x)) refl
      (λ o. b2_is p.role.config (λ cookie. true) o o.entry) p.role.opening in
      let next = successor_none n (is_of ClientIn) is_conn_b1 is_conn_b2 leads p.role.config
      (λ cookie. refl) p.role.successor in
      omega (arith, all, came, put, first, next)

  module _ (of : Cookie → Bool) where
    successor : count_of (is_in_r1_a1 of) (of_leg (ci n) p.came)
        ≡ count_of (is_in_r1_a2 of) (of_leg is p.put)
        + one_if (replaces of (first_due p.role.opening))
    successor =
        let leads = first_leads n of in
        let all = in_opens config (at (ci_leg n)) (is_in_r1_a1 of) (is_in_r1_a2 of) leads moves in
        let came = leg_counts (ci n) (is_in_r1_a1 of) p.came in
        let put = leg_counts is (is_in_r1_a2 of) p.put in
        let first = opening_by n (at (ci_leg n)) (is_in_r1_a1 of) (is_in_r1_a2 of) leads
        p.role.config (λ (x : Option Opener). one_if (replaces of x)) refl
        (λ o. a2_is p.role.config of o o.entry) p.role.opening in
        let next = successor_none n (at (ci_leg n)) (is_in_r1_a1 of) (is_in_r1_a2 of) leads
        p.role.config (λ cookie. refl) p.role.successor in
        omega (arith, all, came, put, first, next)

    later : count_of (is_in_r1_a1 of) (of_later n p.came)
        ≡ count_of (is_in_r2_a2 of) (of_leg is p.put) + one_if (joins of p.role.successor)
    later =
        let leads = later_leads n of in
        let all = in_opens config (is_later n) (is_in_r1_a1 of) (is_in_r2_a2 of) leads moves in
        let came = later_counts n (is_in_r1_a1 of) p.came in
        let put = leg_counts is (is_in_r2_a2 of) p.put in
        let first = opening_by n (is_later n) (is_in_r1_a1 of) (is_in_r2_a2 of) leads
        p.role.config (λ (x : Option Opener). 0) refl
        (λ o. r2_is p.role.config of o o.entry) p.role.opening in
        let next = successor_by n (is_later n) (is_in_r1_a1 of) (is_in_r2_a2 of) leads
        p.role.config of (λ cookie. refl) p.role.successor in
        omega (arith, all, came, put, first, next)

    either : count_of (is_in_r1_a1 of) (of_kind ClientIn p.came)
        ≡ count_of (is_in_a2 of) (of_leg is p.put)
        + (one_if (replaces of (first_due p.role.opening)) + one_if (joins of p.role.successor))
    either =
        let leads = all_leads n of in
        let all = in_opens config (is_of ClientIn) (is_in_r1_a1 of) (is_in_a2 of) leads moves in
        let came = kind_counts ClientIn (is_in_r1_a1 of) p.came in
        let put = leg_counts is (is_in_a2 of) p.put in
        let first = opening_by n (is_of ClientIn) (is_in_r1_a1 of) (is_in_a2 of) leads
        p.role.config (λ (x : Option Opener). one_if (replaces of x)) refl
        (λ o. either_is p.role.config of o o.entry) p.role.opening in
        let next = successor_by n (is_of ClientIn) (is_in_r1_a1 of) (is_in_a2 of) leads
        p.role.config of (λ cookie. refl) p.role.successor in
        omega (arith, all, came, put, first, next)

pub opens_all : (config : InProxyConfig) (moves : List Move)
    → OpensAll config.number (all_moved proxy_rules (started (first config)) moves)
opens_all config moves =
    record { connection = connection config moves; successor = successor config moves }

pub joins_all : (config : InProxyConfig) (moves : List Move)
    → JoinsAll config.number (all_moved proxy_rules (started (first config)) moves)
joins_all config moves = record { later = later config moves; all = either config moves }
