-- of which channels a server is told at a moment of a virtual connection
use Rattle.law_order.proofs.Vocabulary.{◌≡◌, ℕ, zero, suc, ◌+◌, ◌-◌, ◌≤◌, true, List, refl, subst, arith, nat_tests, IsPrefix}
use Rattle.rh_sig.specs.declared.named.Named.TheVariants as named
use Rattle.rh_server.specs.declared.state.Stage.TheVariants as stages
use Rattle.law_moves.proofs.Vocabulary.{Named, ClientOut, OutServer, Message, Passage, of_leg, all_read_of, count_of, HasOne}
use Rattle.law_moves.proofs.Lemmas.{by_proxies}
use Rattle.law_moves.specs.PacketKinds as at_proxy
use Rattle.law_role_inproxy.proofs.Vocabulary.{InProxy, is_leg, IsStream, PutsInOrder}
use Rattle.law_role_client.proofs.Vocabulary.{ClientRole, ci, is_among, is_in_r1_a1, once_if, NamesIns, opened, ReplacesIns, in_asked}
use Rattle.law_role_client.specs.Counted.Opening as client_opening
use Rattle.law_role_server.proofs.Vocabulary.{Stage, Server, in_came, is_conn_b2, is_conn_c1, is_in_r1_a2, out_put, OpensOnce, since_conn_b2, since_open}
use Rattle.law_role_outproxy.proofs.Vocabulary.{ForwardsWhatCame}
use Rattle.law_peers_moments.proofs.GoingRound.Fronts.{are_fronts}
use Rattle.law_peers_moments.proofs.Joining.{in_front, in_reads, is_front}
use Rattle.law_peers_moments.proofs.Read.{front_one}
use Rattle.law_peers_moments.specs.GoingRound.{GoRound, announced, taken_in}
use Rattle.law_peers_moments.specs.Moments.{IsJoined, Moves, Numbers, Passages, client_behind, in_behind, out_behind, passages, server_behind}
use Rattle.law_peers_in_channels.proofs.ServerExpects.FirstIn.{IsConnB1, conn_b1_first}
use Rattle.law_peers_in_channels.proofs.ServerExpects.Logs.{counted_some}
use Rattle.law_peers_in_channels.proofs.InChannels.Announces.{Announces, IsInR1A1, announces, firsts, nexts}

-- ---- what is told

-- by the packets on is leg n: a channel that this in proxy reads, and those that the client asked
-- for
pub record IsTold (reader : ℕ → ℕ) (asked n : ℕ) (ms : List Message) : Type 0 where
  pub once : firsts ms ≤ 1
  pub begins : 1 ≤ nexts ms → 1 ≤ firsts ms
  pub channel : (k : ℕ) → 1 ≤ firsts ms → n ≤ k → k ≤ n + nexts ms
      → (reader k ≡ n) × (1 ≤ k) × (k ≤ asked + 1)
  pub first : 1 ≤ count_of is_conn_b2 ms → n ≡ 1
  pub asked_for : 1 ≤ count_of is_in_r1_a2 ms + nexts ms → 1 ≤ asked

-- on all is legs, where so many successors were asked for
pub record AreTold (reader : ℕ → ℕ) (asked : ℕ) (p : Passage Server) : Type 0 where
  pub on : (n : ℕ) → IsTold reader asked n (of_leg (is_leg n) p.came)
  pub answered : taken_in p ≤ announced p
  pub told : announced p ≤ asked
  pub one : asked ≤ taken_in p + 1
  pub opened : 1 ≤ asked → 1 ≤ in_came is_conn_b2 p
  pub opened_once : in_came is_conn_b2 p ≤ 1

-- ---- counts

pub in_r1_a1_counts : (m : Named) → IsInR1A1 m → is_in_r1_a1 m ≡ true
in_r1_a1_counts (named.InR1A1 version connection predecessor successor) h = refl
in_r1_a1_counts m h = absurd h

among_least : (n count all : ℕ) → count ≡ once_if (is_among 2 all n) → 1 ≤ count → 2 ≤ n
among_least n count all e some = grind (arith, nat_tests, e, some)

among_most : (n count all : ℕ) → count ≡ once_if (is_among 2 all n) → 1 ≤ count → n ≤ all + 1
among_most n count all e some = grind (arith, nat_tests, e, some)

since_both : (stage : Stage) → since_open stage ≤ since_conn_b2 stage
since_both stages.Waits = omega arith
since_both (stages.OutCame connection) = omega arith
since_both (stages.InCame connection window timeout) = omega arith
since_both (stages.Open connection) = omega arith
since_both stages.Ended = omega arith

-- where a successor was asked for, the client is open
asked_opened : (client : Passage ClientRole) → client_opening.OpensOnce client
    → 1 ≤ in_asked client → 1 ≤ opened client
asked_opened client once some = by (opened client) refl
  where
    by : (k : ℕ) → opened client ≡ k → 1 ≤ opened client
    by zero e = let none = (once.unused e).asked_in in absurd (omega (arith, none, some))
    by (suc k) e = omega (arith, e)

-- ---- a moment

-- what the roles keep there
pub record Laws (numbers : Numbers) (moves : Moves) : Type 0 where
  pub names : NamesIns numbers.client.connection (client_behind numbers moves).passage
  pub asks : ReplacesIns (client_behind numbers moves).passage
  pub client_opens : client_opening.OpensOnce (client_behind numbers moves).passage
  pub server_opens : OpensOnce (server_behind numbers moves).passage
  pub forwards : (n : ℕ) → ForwardsWhatCame n (out_behind numbers moves n)
  pub puts : (m : ℕ) → PutsInOrder (numbers.ins m) (in_behind numbers moves m)
  pub number : (m : ℕ) → (numbers.ins m).number ≡ m
  pub round : GoRound (client_behind numbers moves).passage
      (server_behind numbers moves).passage

module _ (numbers : Numbers) (reader : ℕ → ℕ) (moves : Moves)
    (joined : IsJoined numbers reader moves) (law : Laws numbers moves) where
  abbrev all : Passages
  all = passages numbers moves

  abbrev asked : ℕ
  asked = in_asked all.client

  abbrev proxy : ℕ → Passage InProxy
  proxy n = in_behind numbers moves n

  -- ---- what came at an in proxy

  abbrev IsRight : ℕ → ℕ → Type 0
  IsRight n k = (reader k ≡ n) × (1 ≤ k) × (k ≤ asked + 1)

  asked_right : (n k : ℕ) → HasOne IsInR1A1 (of_leg (ci k) (proxy n).came)
      → (reader k ≡ n) × (2 ≤ k) × (k ≤ asked + 1)
  asked_right n k has =
      let put = counted_some IsInR1A1 is_in_r1_a1 in_r1_a1_counts (of_leg (ci k) all.client.put)
      (front_one IsInR1A1 (of_leg (ci k) (proxy n).came) (of_leg (ci k) all.client.put)
      (in_front reader all joined.joined n k) has) in
      let count = count_of is_in_r1_a1 (of_leg (ci k) all.client.put) in (
        in_reads reader all joined.joined IsInR1A1 n k has,
        among_least k count asked (law.asks.asks_on (ci k)) put,
        among_most k count asked (law.asks.asks_on (ci k)) put,
      )

  connected_first : (n : ℕ) → HasOne IsConnB1 (of_leg (ci n) (proxy n).came) → n ≡ 1
  connected_first n has =
      conn_b1_first numbers.client.connection all.client law.names n
      (front_one IsConnB1 (of_leg (ci n) (proxy n).came) (of_leg (ci n) all.client.put)
      (in_front reader all joined.joined n n) has)

  connected_right : (n : ℕ) → HasOne IsConnB1 (of_leg (ci n) (proxy n).came) → IsRight n n
  connected_right n has =
      let first = connected_first n has in (
        in_reads reader all joined.joined IsConnB1 n n has,
        omega (arith, first),
        omega (arith, first),
      )

  -- ---- what is read of what it put

  announces_so : (n : ℕ) (ms : List Message)
      → IsPrefix ms (all_read_of (of_leg (is_leg n) (proxy n).put))
      → Announces (numbers.ins n) (proxy n).came ms
  announces_so n ms front =
      announces (numbers.ins n) (proxy n).came (of_leg (is_leg n) (proxy n).put)
      (subst (λ (k : ℕ). IsStream (numbers.ins n) (proxy n).came (of_leg (is_leg k) (proxy n).put))
      (law.number n) (law.puts n)) ms front

  module _ (n : ℕ) (ms : List Message)
      (front : IsPrefix ms (all_read_of (of_leg (is_leg n) (proxy n).put))) where
    abbrev CameOn : ℕ → (Named → Type 0) → Type 0
    CameOn k Is = HasOne Is (of_leg (ci k) (proxy n).came)

    joined_right : (k : ℕ) → CameOn k IsInR1A1 → IsRight n k
    joined_right k has =
        let h = asked_right n k has in
        let least = h.1 in (h.0, omega (arith, least), h.2)

    at_own : (Is : Named → Type 0) → CameOn (numbers.ins n).number Is → CameOn n Is
    at_own Is has = subst (λ (k : ℕ). CameOn k Is) (law.number n) has

    begun_right : Announces (numbers.ins n) (proxy n).came ms → (a b : ℕ)
        → count_of is_conn_b2 ms ≡ a → count_of is_in_r1_a2 ms ≡ b → 1 ≤ a + b → IsRight n n
    begun_right h zero b e f some =
        joined_right n (at_own IsInR1A1 (h.in_r1_a2 (omega (arith, some, f))))
    begun_right h (suc a) b e f some =
        connected_right n (at_own IsConnB1 (h.conn_b2 (omega (arith, e))))

    channel_right : Announces (numbers.ins n) (proxy n).came ms → (j : ℕ) → 1 ≤ firsts ms
        → j ≤ nexts ms → IsRight n (n + j)
    channel_right h zero some most =
        let e : n ≡ n + 0 = omega arith in
        subst (IsRight n) e
        (begun_right h (count_of is_conn_b2 ms) (count_of is_in_r1_a2 ms) refl refl some)
    channel_right h (suc j) some most =
        let number = law.number n in
        joined_right (n + suc j)
        (h.next (n + suc j) (omega (arith, number)) (omega (arith, number, most)))

    asked_by : Announces (numbers.ins n) (proxy n).came ms → (a : ℕ)
        → count_of is_in_r1_a2 ms ≡ a → 1 ≤ a + nexts ms → 1 ≤ asked
    asked_by h zero e some =
        let number = law.number n in
        let right = asked_right n (suc n)
        (h.next (suc n) (omega (arith, number)) (omega (arith, number, some))) in
        let least = right.1 in
        let most = right.2 in omega (arith, least, most)
    asked_by h (suc a) e some =
        let right = asked_right n n (at_own IsInR1A1 (h.in_r1_a2 (omega (arith, e)))) in
        let least = right.1 in
        let most = right.2 in omega (arith, least, most)

    -- as far as it goes
    pub is_told : IsTold reader asked n ms
    is_told =
        let h = announces_so n ms front in
        record {
          once = h.once;
          begins = h.begins;
          channel = λ k some least most.
              let e : n + (k - n) ≡ k = omega (arith, least) in
              subst (IsRight n) e
              (channel_right h (k - n) some (omega (arith, least, most)));
          first = λ some. connected_first n (at_own IsConnB1 (h.conn_b2 some));
          asked_for = asked_by h (count_of is_in_r1_a2 ms) refl;
        }

  -- ---- what came at the server

  -- no more CONN/C2 came than CONN/C1 was put
  opened_by_put : opened all.client ≤ out_put is_conn_c1 all.server
  opened_by_put =
      let f = are_fronts reader all joined.joined in
      by_proxies at_proxy.is_conn_c1 at_proxy.is_conn_c2 OutServer ClientOut all.client.came
      all.server.put (λ n. (all.outs n).came) (λ n. (all.outs n).put)
      (f.co_down at_proxy.is_conn_c2) (λ n. (law.forwards n).connection)
      (f.os_down at_proxy.is_conn_c1)

  client_opened : 1 ≤ asked → 1 ≤ in_came is_conn_b2 all.server
  client_opened some =
      let client = asked_opened all.client law.client_opens some in
      let down = opened_by_put in
      let put = law.server_opens.conn_c1 in
      let came = law.server_opens.conn_b2 in
      let both = since_both all.server.role.stage in
      omega (arith, client, down, put, came, both)

  pub are_told : AreTold reader asked all.server
  are_told =
      let round = law.round.ins in
      let one = round.a1_behind_a4 in
      let answered = round.a4_behind_a3 in
      record {
        on = λ n.
            is_told n (of_leg (is_leg n) all.server.came)
            (is_front reader all joined.joined n);
        answered = round.a3_behind_a2;
        told = round.a2_behind_a1;
        one = omega (arith, one, answered);
        opened = client_opened;
        opened_once = law.server_opens.conn_b2_once;
      }
