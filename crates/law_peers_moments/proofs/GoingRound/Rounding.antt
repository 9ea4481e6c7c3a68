-- what each role counts, along the ways between them
use Rattle.law_order.proofs.Vocabulary.{◌≡◌, ℕ, suc, ◌+◌, ◌≤◌, Bool, true, false, if◌then◌else◌, List, [], ◌∷◌, refl, arith}
use Rattle.rh_sig.specs.declared.named.Named.TheVariants as named
use Rattle.law_moves.proofs.Vocabulary.{Cookie, Named, ClientIn, ClientOut, InServer, OutServer, Message, Text, Pdu, Packet, count_of, of_kind, count_on, AreFronts, Logs}
use Rattle.law_moves.proofs.Lemmas.{by_in_proxies, by_proxies, count_none as none_count, none as never}
use Rattle.law_moves.specs.Chains.Ways.{total}
use Rattle.law_moves.specs.PacketKinds as at_proxy
use Rattle.law_role_inproxy.proofs.Vocabulary.{PutsForWhatCame}
use Rattle.law_role_client.proofs.Vocabulary.{ReplacesIns, ReplacesOuts, AsksWhereWanted}
use Rattle.law_role_client.specs.Counted.Counting as at_client
use Rattle.law_role_server.proofs.Vocabulary.{AreAnswered, AreInTurn}
use Rattle.law_role_server.specs.Counted.Counting as at_server
use Rattle.law_role_outproxy.proofs.Vocabulary.{ForwardsWhatCame, OpensWhatCame}
use Rattle.law_peers_moments.proofs.GoingRound.Fronts.{are_fronts, logs_of}
use Rattle.law_peers_moments.specs.Moments.{AreJoined, Passages}
use Rattle.law_peers_moments.specs.GoingRound.{GoRound, InGoesRound, OutGoesRound}

-- what each role keeps of its counts
pub record AreCounted (all : Passages) : Type 0 where
  pub client_ins : ReplacesIns all.client
  pub client_outs : ReplacesOuts all.client
  pub client_asks : AsksWhereWanted all.client
  pub server_ins : AreAnswered all.server
  pub server_outs : AreInTurn all.server
  pub ins : (m : ℕ) → PutsForWhatCame m (all.ins m)
  pub outs : (n : ℕ) → ForwardsWhatCame n (all.outs n)
  pub opens : (n : ℕ) → OpensWhatCame n (all.outs n)

-- ---- tests that are the same

abbrev pub once : Bool → ℕ
once b = if b then 1 else 0

counted : (test : Named → Bool) (named : Named) (ms : List Message)
    → count_of test (Packet named ∷ ms) ≡ once (test named) + count_of test ms
counted test named ms = by (test named)
  where
    by : (b : Bool) → (if b then suc (count_of test ms) else count_of test ms)
        ≡ once b + count_of test ms
    by true = omega arith
    by false = omega arith

-- where one test is two others that are never passed together
pub sum_counts : (all one other : Named → Bool)
    → ((named : Named) → once (all named) ≡ once (one named) + once (other named))
    → (ms : List Message) → count_of all ms ≡ count_of one ms + count_of other ms
sum_counts all one other is [] = omega arith
sum_counts all one other is (Text bytes ∷ ms) = sum_counts all one other is ms
sum_counts all one other is (Pdu pdu ∷ ms) = sum_counts all one other is ms
sum_counts all one other is (Packet named ∷ ms) =
    let rest = sum_counts all one other is ms in
    let here = is named in
    let a = counted all named ms in
    let b = counted one named ms in
    let c = counted other named ms in
    omega (arith, rest, here, a, b, c)

pub same_counts : (one other : Named → Bool)
    → ((named : Named) → once (one named) ≡ once (other named))
    → (ms : List Message) → count_of one ms ≡ count_of other ms
same_counts one other is ms =
    let sum = sum_counts one other never
    (λ (named : Named). let same = is named in omega (arith, same)) ms in
    let none = none_count ms in
    omega (arith, sum, none)

abbrev pub any : Cookie → Bool
any cookie = true

pub answers : (named : Named) → once (at_client.is_in_a4 named)
    ≡ once (at_proxy.is_in_r1_a4 named) + once (at_proxy.is_in_r2_a4 named)
answers (named.InR1A4 to version window timeout) = refl
answers (named.InR2A4 to) = refl
answers packet = refl

announcements : (named : Named) → once (at_proxy.is_in_a2 any named)
    ≡ once (at_server.is_in_r1_a2 named) + once (at_server.is_in_r2_a2 named)
announcements (named.InR1A2 version connection predecessor channel window timeout) = refl
announcements (named.InR2A2 successor) = refl
announcements packet = refl

asks : (named : Named) → once (at_proxy.is_in_r1_a1 any named)
    ≡ once (at_client.is_in_r1_a1 named)
asks (named.InR1A1 version connection predecessor channel) = refl
asks packet = refl

switches : (named : Named) → once (at_proxy.is_out_r1_a7 any named)
    ≡ once (at_client.is_out_r1_a7 named)
switches (named.OutR1A7 to successor) = refl
switches packet = refl

confirms : (named : Named) → once (at_proxy.is_out_r1_a8 any named)
    ≡ once (at_server.is_out_r1_a8 named)
confirms (named.OutR1A8 to successor) = refl
confirms packet = refl

pub r1_answers : (named : Named) → once (at_proxy.is_in_r1_a3 named)
    ≡ once (at_server.is_in_r1_a3 named)
r1_answers (named.InR1A3 to version window timeout) = refl
r1_answers packet = refl

pub r2_answers : (named : Named) → once (at_proxy.is_in_r2_a3 named)
    ≡ once (at_server.is_in_r2_a3 named)
r2_answers (named.InR2A3 to) = refl
r2_answers packet = refl

pub finishes : (named : Named) → once (at_proxy.is_out_r1_a10 named)
    ≡ once (at_client.is_out_r1_a10 named)
finishes (named.OutR1A10) = refl
finishes packet = refl

pub hands_over : (named : Named) → once (at_proxy.is_out_r1_a9 named)
    ≡ once (at_server.is_out_r1_a9 named)
hands_over (named.OutR1A9) = refl
hands_over packet = refl

pub agrees : (named : Named) → once (at_proxy.is_out_r1_a6 named)
    ≡ once (at_client.is_out_r1_a6 named)
agrees (named.OutR1A6 to version timeout) = refl
agrees packet = refl

pub grants : (named : Named) → once (at_proxy.is_out_r1_a5 named)
    ≡ once (at_server.is_out_r1_a5 named)
grants (named.OutR1A5 to version timeout) = refl
grants packet = refl

begins : (named : Named) → once (at_proxy.is_out_r1_a4 named)
    ≡ once (at_server.is_out_r1_a4 named)
begins (named.OutR1A4 version connection predecessor successor lifetime window timeout) = refl
begins packet = refl

opens_next : (named : Named) → once (at_proxy.is_out_r1_a3 named)
    ≡ once (at_client.is_out_r1_a3 named)
opens_next (named.OutR1A3 version connection predecessor successor window) = refl
opens_next packet = refl

pub wishes : (named : Named) → once (at_proxy.is_out_r1_a2 named)
    ≡ once (at_client.is_out_r1_a2 named)
wishes (named.OutR1A2 to) = refl
wishes packet = refl

pub wants : (named : Named) → once (at_proxy.is_out_r1_a1 named)
    ≡ once (at_server.is_out_r1_a1 named)
wants (named.OutR1A1 to) = refl
wants packet = refl

-- ---- the ways

module _ (reader : ℕ → ℕ) (all : Passages) (joined : AreJoined reader all)
    (known : AreCounted all) where
  abbrev l : Logs
  l = logs_of reader all

  f : AreFronts l
  f = are_fronts reader all joined

  -- down to the client, by out proxies
  down : (before behind : Named → Bool)
      → ((n : ℕ) → count_on behind ClientOut (all.outs n).put n
      ≤ count_on before OutServer (all.outs n).came n)
      → total behind ClientOut all.client.came ≤ total before OutServer all.server.put
  down before behind passes =
      by_proxies before behind OutServer ClientOut all.client.came all.server.put l.out_came
      l.out_put (f.co_down behind) passes (f.os_down before)

  -- and from there to the server
  back : (before behind : Named → Bool)
      → ((n : ℕ) → count_on behind OutServer (all.outs n).put n
      ≤ count_on before ClientOut (all.outs n).came n)
      → total behind OutServer all.server.came ≤ total before ClientOut all.client.put
  back before behind passes =
      by_proxies before behind ClientOut OutServer all.server.came all.client.put l.out_came
      l.out_put (f.os_up behind) passes (f.co_up before)

  -- up to the server, by in proxies
  up : (before behind : Named → Bool)
      → ((m : ℕ) → count_on behind InServer (all.ins m).put m
      ≤ total before ClientIn (all.ins m).came)
      → total behind InServer all.server.came ≤ total before ClientIn all.client.put
  up before behind passes =
      by_in_proxies before behind all.server.came all.client.put l.in_came l.in_put l.reader
      (f.is_up behind) passes (f.ci_up before)

  -- ---- replacements

  in_round : InGoesRound all.client all.server
  in_round = record {
    a4_behind_a3 =
        let first = down at_proxy.is_in_r1_a3 at_proxy.is_in_r1_a4 (λ n. (known.outs n).in_r1) in
        let same = down at_proxy.is_in_r2_a3 at_proxy.is_in_r2_a4 (λ n. (known.outs n).in_r2) in
        let sum = sum_counts at_client.is_in_a4 at_proxy.is_in_r1_a4 at_proxy.is_in_r2_a4 answers
        (of_kind ClientOut all.client.came) in
        let in_r1 = same_counts at_proxy.is_in_r1_a3 at_server.is_in_r1_a3 r1_answers
        (of_kind OutServer all.server.put) in
        let in_r2 = same_counts at_proxy.is_in_r2_a3 at_server.is_in_r2_a3 r2_answers
        (of_kind OutServer all.server.put) in
        omega (arith, first, same, sum, in_r1, in_r2);
    a3_behind_a2 =
        let in_r1 = known.server_ins.in_r1_at_most in
        let in_r2 = known.server_ins.in_r2_at_most in
        omega (arith, in_r1, in_r2);
    a2_behind_a1 =
        let way = up (at_proxy.is_in_r1_a1 any) (at_proxy.is_in_a2 any)
        (λ m. (known.ins m).successors any) in
        let sum = sum_counts (at_proxy.is_in_a2 any) at_server.is_in_r1_a2 at_server.is_in_r2_a2
        announcements (of_kind InServer all.server.came) in
        let one = same_counts (at_proxy.is_in_r1_a1 any) at_client.is_in_r1_a1 asks
        (of_kind ClientIn all.client.put) in
        omega (arith, way, sum, one);
    a1_behind_a4 = known.client_ins.one;
  }

  out_round : OutGoesRound all.client all.server
  out_round = record {
    a10_behind_a9 =
        let way = down at_proxy.is_out_r1_a9 at_proxy.is_out_r1_a10
        (λ n. (known.outs n).handover) in
        let here = same_counts at_proxy.is_out_r1_a10 at_client.is_out_r1_a10 finishes
        (of_kind ClientOut all.client.came) in
        let there = same_counts at_proxy.is_out_r1_a9 at_server.is_out_r1_a9 hands_over
        (of_kind OutServer all.server.put) in
        omega (arith, way, here, there);
    a9_behind_a8 = known.server_outs.a9_behind_a8;
    a8_behind_a7 =
        let way = up (at_proxy.is_out_r1_a7 any) (at_proxy.is_out_r1_a8 any)
        (λ m. (known.ins m).answers any) in
        let here = same_counts (at_proxy.is_out_r1_a8 any) at_server.is_out_r1_a8 confirms
        (of_kind InServer all.server.came) in
        let there = same_counts (at_proxy.is_out_r1_a7 any) at_client.is_out_r1_a7 switches
        (of_kind ClientIn all.client.put) in
        omega (arith, way, here, there);
    a7_behind_a6 = known.client_outs.answered;
    a6_behind_a5 =
        let way = down at_proxy.is_out_r1_a5 at_proxy.is_out_r1_a6
        (λ n. (known.outs n).answers) in
        let here = same_counts at_proxy.is_out_r1_a6 at_client.is_out_r1_a6 agrees
        (of_kind ClientOut all.client.came) in
        let there = same_counts at_proxy.is_out_r1_a5 at_server.is_out_r1_a5 grants
        (of_kind OutServer all.server.put) in
        omega (arith, way, here, there);
    a5_behind_a4 = known.server_outs.a5_behind_a4;
    a4_behind_a3 =
        let way = back at_proxy.is_out_r1_a3 at_proxy.is_out_r1_a4
        (λ n. (known.opens n).successor) in
        let here = same_counts at_proxy.is_out_r1_a4 at_server.is_out_r1_a4 begins
        (of_kind OutServer all.server.came) in
        let there = same_counts at_proxy.is_out_r1_a3 at_client.is_out_r1_a3 opens_next
        (of_kind ClientOut all.client.put) in
        omega (arith, way, here, there);
    a3_behind_a2 = known.client_asks.wanted;
    a2_behind_a1 =
        let way = down at_proxy.is_out_r1_a1 at_proxy.is_out_r1_a2
        (λ n. (known.outs n).wishes) in
        let here = same_counts at_proxy.is_out_r1_a2 at_client.is_out_r1_a2 wishes
        (of_kind ClientOut all.client.came) in
        let there = same_counts at_proxy.is_out_r1_a1 at_server.is_out_r1_a1 wants
        (of_kind OutServer all.server.put) in
        omega (arith, way, here, there);
    a1_behind_a9 = let one = known.server_outs.a1_behind_a9 in omega (arith, one);
  }

  pub go_round : GoRound all.client all.server
  go_round = record { ins = in_round; outs = out_round }
