-- what goes round between the ends passes each out proxy one by one
use Rattle.law_order.proofs.Vocabulary.{◌≡◌, ℕ, zero, suc, ◌+◌, ◌≤◌, ◌==◌, Bool, true, false, List, refl, ap, arith, nat_tests}
use Rattle.rh_sig.specs.declared.named.Named.TheVariants as named
use Rattle.law_moves.proofs.Vocabulary.{Named, ClientOut, OutServer, OnLeg, of_kind, count_on, sum_below, AreFronts, Logs}
use Rattle.law_moves.proofs.Lemmas.{all_legs, some_legs, sum_rises}
use Rattle.law_moves.specs.Chains.Ways.{total}
use Rattle.law_moves.specs.PacketKinds as at_proxy
use Rattle.law_role_client.specs.Counted.Counting as at_client
use Rattle.law_role_server.proofs.Vocabulary.{out_put}
use Rattle.law_role_server.specs.Counted.Counting as at_server
use Rattle.law_peers_moments.proofs.GoingRound.Fronts.{are_fronts, logs_of}
use Rattle.law_peers_moments.proofs.GoingRound.Rounding.{agrees, grants, once, same_counts, sum_counts, wants, wishes}
use Rattle.law_peers_moments.specs.Moments.{AreJoined, Passages}
use Rattle.law_peers_moments.specs.GoingRound.{GoRound}
use Rattle.law_peers_room.specs.OutRoom.Room.{IsOneAhead, PassOneByOne}
use Rattle.law_peers_room.specs.OutRoom.Waits.{AreOfCame, WaitsInOrder, is_in_a3}

-- ---- sums

-- what is apart at one number is no more than what the sums are apart
apart_at : (f g : ℕ → ℕ) → ((k : ℕ) → f k ≤ g k) → (n m : ℕ) → suc n ≤ m
    → sum_below f m + g n ≤ sum_below g m + f n
apart_at f g each n zero less = absurd (omega (arith, less))
apart_at f g each n (suc m) less = by (n == m) refl (apart_at f g each n m)
  where
    by : (b : Bool) → (n == m) ≡ b
        → (suc n ≤ m → sum_below f m + g n ≤ sum_below g m + f n)
        → sum_below f (suc m) + g n ≤ sum_below g (suc m) + f n
    by true e rest =
        let same : n ≡ m = grind (arith, nat_tests, e) in
        let sums = sum_rises f g each m in
        let here : g n ≡ g m = ap g same in
        let there : f n ≡ f m = ap f same in
        omega (arith, sums, here, there)
    by false e rest =
        let before : suc n ≤ m = grind (arith, nat_tests, e, less) in
        let so = rest before in
        let one = each m in
        omega (arith, so, one)

-- what stands on one leg is among all
one_leg : (test : Named → Bool) (log : List OnLeg) (n : ℕ)
    → count_on test OutServer log n ≤ total test OutServer log
one_leg test log n =
    let some = some_legs test OutServer log (suc n) in omega (arith, some)

-- ---- tests that are the same

pub answers : (m : Named) → once (is_in_a3 m)
    ≡ once (at_server.is_in_r1_a3 m) + once (at_server.is_in_r2_a3 m)
answers (named.InR1A3 to version window timeout) = refl
answers (named.InR2A3 to) = refl
answers m = refl

connects : (m : Named) → once (at_proxy.is_conn_c1 m) ≡ once (at_server.is_conn_c1 m)
connects (named.ConnC1 version window timeout) = refl
connects m = refl

-- ---- down to the client

module _ (reader : ℕ → ℕ) (all : Passages) (joined : AreJoined reader all)
    (waits : (n : ℕ) → WaitsInOrder n (all.outs n)) where
  abbrev l : Logs
  l = logs_of reader all

  f : AreFronts l
  f = are_fronts reader all joined

  -- where all that was put is no more than what came, but for one, so it is at each proxy
  one_ahead : (before after : Named → Bool) → ((n : ℕ) → AreOfCame before after n (all.outs n))
      → total before OutServer all.server.put ≤ total after ClientOut all.client.came + 1
      → (n : ℕ) → IsOneAhead before after n (all.outs n)
  one_ahead before after passes round n =
      let came = count_on after ClientOut all.client.came in
      let put = count_on before OutServer all.server.put in
      let each : (k : ℕ) → came k ≤ put k
      = λ k. (
      let last = f.co_down after k in
      let pass = passes k in
      let first = f.os_down before k in
      omega (arith, last, pass, first)) in
      let legs = all_legs after ClientOut all.client.came in
      let m = legs.bound + suc n in
      let most = legs.all m (omega arith) in
      let some = some_legs before OutServer all.server.put m in
      let apart = apart_at came put each n m (omega arith) in
      let last = f.co_down after n in
      let first = f.os_down before n in
      omega (arith, round, most, some, apart, last, first)

  pub one_by_one : GoRound all.client all.server → out_put at_server.is_conn_c1 all.server ≤ 1
      → (n : ℕ) → PassOneByOne n (all.outs n)
  one_by_one round once_put n = record {
    connection =
        let came = f.os_down at_proxy.is_conn_c1 n in
        let one = one_leg at_proxy.is_conn_c1 all.server.put n in
        let same = same_counts at_proxy.is_conn_c1 at_server.is_conn_c1 connects
        (of_kind OutServer all.server.put) in
        omega (arith, came, one, same, once_put);
    ins = one_ahead is_in_a3 at_client.is_in_a4 (λ k. (waits k).ins)
        (let sum = sum_counts is_in_a3 at_server.is_in_r1_a3 at_server.is_in_r2_a3 answers
        (of_kind OutServer all.server.put) in
        let first = round.ins.a3_behind_a2 in
        let second = round.ins.a2_behind_a1 in
        let third = round.ins.a1_behind_a4 in
        omega (arith, sum, first, second, third)) n;
    wishes = one_ahead at_proxy.is_out_r1_a1 at_proxy.is_out_r1_a2 (λ k. (waits k).wishes)
        (let put = same_counts at_proxy.is_out_r1_a1 at_server.is_out_r1_a1 wants
        (of_kind OutServer all.server.put) in
        let came = same_counts at_proxy.is_out_r1_a2 at_client.is_out_r1_a2 wishes
        (of_kind ClientOut all.client.came) in
        let wanting = round.outs.a1_behind_a9 in
        let handed_over = round.outs.a9_behind_a8 in
        let confirmed = round.outs.a8_behind_a7 in
        let switched = round.outs.a7_behind_a6 in
        let answered = round.outs.a6_behind_a5 in
        let granted = round.outs.a5_behind_a4 in
        let opened = round.outs.a4_behind_a3 in
        let asked = round.outs.a3_behind_a2 in
        omega (
          arith,
          put,
          came,
          wanting,
          handed_over,
          confirmed,
          switched,
          answered,
          granted,
          opened,
          asked,
        )) n;
    answers = one_ahead at_proxy.is_out_r1_a5 at_proxy.is_out_r1_a6 (λ k. (waits k).answers)
        (let put = same_counts at_proxy.is_out_r1_a5 at_server.is_out_r1_a5 grants
        (of_kind OutServer all.server.put) in
        let came = same_counts at_proxy.is_out_r1_a6 at_client.is_out_r1_a6 agrees
        (of_kind ClientOut all.client.came) in
        let granted = round.outs.a5_behind_a4 in
        let opened = round.outs.a4_behind_a3 in
        let asked = round.outs.a3_behind_a2 in
        let wanted = round.outs.a2_behind_a1 in
        let wanting = round.outs.a1_behind_a9 in
        let handed_over = round.outs.a9_behind_a8 in
        let confirmed = round.outs.a8_behind_a7 in
        let switched = round.outs.a7_behind_a6 in
        omega (
          arith,
          put,
          came,
          granted,
          opened,
          asked,
          wanted,
          wanting,
          handed_over,
          confirmed,
          switched,
        )) n;
  }
