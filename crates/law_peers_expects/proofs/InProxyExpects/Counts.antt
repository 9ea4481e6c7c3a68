-- what was counted along the ways of a virtual connection
use Rattle.law_order.proofs.Vocabulary.{◌≡◌, ℕ, zero, suc, ◌+◌, ◌≤◌, Bool, true, false, not, if◌then◌else◌, List, [], ◌∷◌, refl, arith}
use Rattle.rh_sig.specs.declared.named.Named.TheVariants as named
use Rattle.rh_server.specs.declared.state.Stage.TheVariants as stages
use Rattle.law_moves.proofs.Vocabulary.{Cookie, Named, LegKind, ClientIn, ClientOut, InServer, OutServer, Message, Text, Pdu, Packet, one_if, OnLeg, Passage, count_of, of_kind, count_on, sum_below, AreFronts, Logs}
use Rattle.law_moves.proofs.Lemmas.{by_in_proxies, by_proxies, all_legs}
use Rattle.law_moves.specs.Chains.Ways.{total}
use Rattle.law_moves.specs.PacketKinds as at_proxy
use Rattle.law_role_inproxy.proofs.Vocabulary.{InProxy, PutsForWhatCame}
use Rattle.law_role_client.proofs.Vocabulary.{ClientRole, opened, in_asked}
use Rattle.law_role_client.specs.Counted.Counting as at_client
use Rattle.law_role_server.proofs.Vocabulary.{Stage, Server, OpensOnce, since_conn_a2, since_conn_b2, since_open}
use Rattle.law_role_server.specs.Counted.Counting as at_server
use Rattle.law_role_outproxy.proofs.Vocabulary.{OutProxy, ForwardsWhatCame, OpensWhatCame}
use Rattle.law_peers_moments.proofs.GoingRound.Rounding.{any}
use Rattle.law_peers_moments.specs.GoingRound.{announced}
use Rattle.law_peers_expects.proofs.InProxyExpects.Fronts.{same_counts}

-- ---- tests

first_counts : (test : Named → Bool) (m : Named) (ms : List Message)
    → count_of test (Packet m ∷ ms) ≡ one_if (test m) + count_of test ms
first_counts test m ms = by (test m)
  where
    by : (b : Bool) → (if b then suc (count_of test ms) else count_of test ms)
        ≡ one_if b + count_of test ms
    by true = omega arith
    by false = omega arith

-- where one test is two others that are never passed together
sum_counts : (all one other : Named → Bool)
    → ((m : Named) → one_if (all m) ≡ one_if (one m) + one_if (other m))
    → (ms : List Message) → count_of all ms ≡ count_of one ms + count_of other ms
sum_counts all one other is [] = omega arith
sum_counts all one other is (Text bytes ∷ ms) = sum_counts all one other is ms
sum_counts all one other is (Pdu pdu ∷ ms) = sum_counts all one other is ms
sum_counts all one other is (Packet m ∷ ms) =
    let rest = sum_counts all one other is ms in
    let here = is m in
    let a = first_counts all m ms in
    let b = first_counts one m ms in
    let c = first_counts other m ms in
    omega (arith, rest, here, a, b, c)

halves : (b : Bool) → 1 ≡ one_if b + one_if (not b)
halves true = refl
halves false = refl

module _ (of : Cookie → Bool) where
  abbrev other : Cookie → Bool
  other cookie = not (of cookie)

  asks_of : (m : Named) → one_if (at_proxy.is_in_r1_a1 any m)
      ≡ one_if (at_proxy.is_in_r1_a1 of m) + one_if (at_proxy.is_in_r1_a1 other m)
  asks_of (named.InR1A1 version connection predecessor channel) = halves (of channel)
  asks_of m = refl

  tells_of : (m : Named) → one_if (at_proxy.is_in_a2 any m)
      ≡ one_if (at_proxy.is_in_a2 of m) + one_if (at_proxy.is_in_a2 other m)
  tells_of (named.InR1A2 version connection predecessor channel window timeout) =
      halves (of channel)
  tells_of (named.InR2A2 channel) = halves (of channel)
  tells_of m = refl

announcements : (m : Named) → one_if (at_proxy.is_in_a2 any m)
    ≡ one_if (at_server.is_in_r1_a2 m) + one_if (at_server.is_in_r2_a2 m)
announcements (named.InR1A2 version connection predecessor channel window timeout) = refl
announcements (named.InR2A2 successor) = refl
announcements m = refl

asks : (m : Named) → at_proxy.is_in_r1_a1 any m ≡ at_client.is_in_r1_a1 m
asks (named.InR1A1 version connection predecessor channel) = refl
asks m = refl

pub conn_c2 : (m : Named) → at_client.is_conn_c2 m ≡ at_proxy.is_conn_c2 m
conn_c2 (named.ConnC2 version window timeout) = refl
conn_c2 m = refl

pub conn_c1 : (m : Named) → at_proxy.is_conn_c1 m ≡ at_server.is_conn_c1 m
conn_c1 (named.ConnC1 version window timeout) = refl
conn_c1 m = refl

conn_b2 : (m : Named) → at_proxy.is_conn_b2 m ≡ at_server.is_conn_b2 m
conn_b2 (named.ConnB2 version connection channel window timeout group address padding) = refl
conn_b2 m = refl

conn_a2 : (m : Named) → at_proxy.is_conn_a2 m ≡ at_server.is_conn_a2 m
conn_a2 (named.ConnA2 version connection channel lifetime window) = refl
conn_a2 m = refl

conn_b1 : (m : Named) → at_proxy.is_conn_b1 m ≡ at_client.is_conn_b1 m
conn_b1 (named.ConnB1 version connection channel lifetime keepalive group) = refl
conn_b1 m = refl

pub conn_a1 : (m : Named) → at_proxy.is_conn_a1 m ≡ at_client.is_conn_a1 m
conn_a1 (named.ConnA1 version connection channel window) = refl
conn_a1 m = refl

-- ---- a leg on which some stand

some_below : (f : ℕ → ℕ) (n : ℕ) → 1 ≤ sum_below f n → (k : ℕ) × (1 ≤ f k)
some_below f zero some = absurd (omega (arith, some))
some_below f (suc n) some = by (f n) refl (some_below f n)
  where
    by : (k : ℕ) → f n ≡ k → (1 ≤ sum_below f n → (j : ℕ) × (1 ≤ f j)) → (j : ℕ) × (1 ≤ f j)
    by zero e rest = rest (omega (arith, some, e))
    by (suc k) e rest = (n, omega (arith, e))

pub some_on : (test : Named → Bool) (kind : LegKind) (log : List OnLeg) → 1 ≤ total test kind log
    → (n : ℕ) × (1 ≤ count_on test kind log n)
some_on test kind log some =
    let legs = all_legs test kind log in
    let all = legs.all legs.bound (omega arith) in
    some_below (count_on test kind log) legs.bound (omega (arith, some, all))

-- ---- how far the opening is

came_both : (stage : Stage) → 1 ≤ since_open stage
    → (since_conn_a2 stage ≡ 1) × (since_conn_b2 stage ≡ 1)
came_both stages.Waits some = absurd (omega (arith, some))
came_both (stages.OutCame connection) some = absurd (omega (arith, some))
came_both (stages.InCame connection window timeout) some = absurd (omega (arith, some))
came_both (stages.Open connection) some = (refl, refl)
came_both stages.Ended some = (refl, refl)

-- ---- the ways

abbrev pub logs : (ℕ → ℕ) → Passage ClientRole → Passage Server → (ℕ → Passage InProxy)
    → (ℕ → Passage OutProxy) → Logs
logs reader client server ins outs = record {
  client_came = client.came;
  client_put = client.put;
  server_came = server.came;
  server_put = server.put;
  in_came = λ m. (ins m).came;
  in_put = λ m. (ins m).put;
  out_came = λ n. (outs n).came;
  out_put = λ n. (outs n).put;
  reader = reader;
}

module _ (reader : ℕ → ℕ) (client : Passage ClientRole) (server : Passage Server)
    (ins : ℕ → Passage InProxy) (outs : ℕ → Passage OutProxy)
    (f : AreFronts (logs reader client server ins outs)) where
  abbrev l : Logs
  l = logs reader client server ins outs

  up : (before behind : Named → Bool)
      → ((m : ℕ) → count_on behind InServer (ins m).put m ≤ total before ClientIn (ins m).came)
      → total behind InServer server.came ≤ total before ClientIn client.put
  up before behind passes =
      by_in_proxies before behind server.came client.put l.in_came l.in_put reader
      (f.is_up behind) passes (f.ci_up before)

  -- a client is opened only behind CONN/B1 and CONN/A1 that it put
  pub opened_behind : OpensOnce server → ((m : ℕ) → PutsForWhatCame m (ins m))
      → ((n : ℕ) → ForwardsWhatCame n (outs n)) → ((n : ℕ) → OpensWhatCame n (outs n))
      → 1 ≤ opened client
      → (1 ≤ at_client.total at_client.is_conn_b1 ClientIn client.put)
      × (1 ≤ at_client.total at_client.is_conn_a1 ClientOut client.put)
  opened_behind once puts forwards opens some =
      let at_end = same_counts at_client.is_conn_c2 at_proxy.is_conn_c2 conn_c2
      (of_kind ClientOut client.came) in
      let down = by_proxies at_proxy.is_conn_c1 at_proxy.is_conn_c2 OutServer ClientOut
      client.came server.put l.out_came l.out_put (f.co_down at_proxy.is_conn_c2)
      (λ n. (forwards n).connection) (f.os_down at_proxy.is_conn_c1) in
      let at_start = same_counts at_proxy.is_conn_c1 at_server.is_conn_c1 conn_c1
      (of_kind OutServer server.put) in
      let law = once.conn_c1 in
      let both = came_both server.role.stage
      (omega (arith, some, at_end, down, at_start, law)) in
      let in_law = once.conn_b2 in
      let out_law = once.conn_a2 in
      let in_all = both.1 in
      let out_all = both.0 in
      let in_way = up at_proxy.is_conn_b1 at_proxy.is_conn_b2 (λ m. (puts m).connection) in
      let in_end = same_counts at_proxy.is_conn_b2 at_server.is_conn_b2 conn_b2
      (of_kind InServer server.came) in
      let in_start = same_counts at_proxy.is_conn_b1 at_client.is_conn_b1 conn_b1
      (of_kind ClientIn client.put) in
      let out_way = by_proxies at_proxy.is_conn_a1 at_proxy.is_conn_a2 ClientOut OutServer
      server.came client.put l.out_came l.out_put (f.os_up at_proxy.is_conn_a2)
      (λ n. (opens n).connection) (f.co_up at_proxy.is_conn_a1) in
      let out_end = same_counts at_proxy.is_conn_a2 at_server.is_conn_a2 conn_a2
      (of_kind OutServer server.came) in
      let out_start = same_counts at_proxy.is_conn_a1 at_client.is_conn_a1 conn_a1
      (of_kind ClientOut client.put) in (
        omega (arith, in_law, in_all, in_way, in_end, in_start),
        omega (arith, out_law, out_all, out_way, out_end, out_start),
      )

  -- where as many were announced as were asked for, each was
  pub each_announced : (of : Cookie → Bool) → ((m : ℕ) → PutsForWhatCame m (ins m))
      → in_asked client ≤ announced server
      → 1 ≤ total (at_proxy.is_in_r1_a1 of) ClientIn client.put
      → (n : ℕ) × (1 ≤ count_on (at_proxy.is_in_a2 of) InServer server.came n)
  each_announced of puts all some =
      let asked = same_counts (at_proxy.is_in_r1_a1 any) at_client.is_in_r1_a1 asks
      (of_kind ClientIn client.put) in
      let asked_parts = sum_counts (at_proxy.is_in_r1_a1 any) (at_proxy.is_in_r1_a1 of)
      (at_proxy.is_in_r1_a1 (other of)) (asks_of of) (of_kind ClientIn client.put) in
      let told = sum_counts (at_proxy.is_in_a2 any) at_server.is_in_r1_a2 at_server.is_in_r2_a2
      announcements (of_kind InServer server.came) in
      let told_parts = sum_counts (at_proxy.is_in_a2 any) (at_proxy.is_in_a2 of)
      (at_proxy.is_in_a2 (other of)) (tells_of of) (of_kind InServer server.came) in
      let others = up (at_proxy.is_in_r1_a1 (other of)) (at_proxy.is_in_a2 (other of))
      (λ m. (puts m).successors (other of)) in
      some_on (at_proxy.is_in_a2 of) InServer server.came
      (omega (arith, all, some, asked, asked_parts, told, told_parts, others))
