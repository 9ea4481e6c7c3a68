-- nodes that are joined by legs, as a count of packets sees them
use Rattle.rh_text.specs.declared.ends.Side.TheVariants as side
use Rattle.law_order.proofs.Vocabulary.{◌≡◌, ℕ, ◌≤◌, ◌==◌, Bool, true, false, if◌then◌else◌, List, refl, sym, subst, arith, nat_tests}
use Rattle.rh_record.specs.declared.answer.Who.TheVariants as who
use Rattle.rh_nodes.specs.Settling.{leg_at}
use Rattle.law_moves.proofs.Vocabulary.{Side, Named, ClientOut, OutServer, ClientIn, InServer, Message, of_leg, count_of, count_on, AreFronts, Logs}
use Rattle.law_peers_moments.proofs.Joining.{co_back, co_front, in_front, is_back, is_front, os_back, os_front}
use Rattle.law_peers_moments.proofs.Read.{front_count}
use Rattle.law_peers_moments.specs.Moments.{AreJoined, Passages, end_of}

abbrev pub logs_of : (ℕ → ℕ) → Passages → Logs
logs_of reader all = record {
  client_came = all.client.came;
  client_put = all.client.put;
  server_came = all.server.came;
  server_put = all.server.put;
  in_came = λ m. (all.ins m).came;
  in_put = λ m. (all.ins m).put;
  out_came = λ n. (all.outs n).came;
  out_put = λ n. (all.outs n).put;
  reader = reader;
}

module _ (reader : ℕ → ℕ) (all : Passages) (joined : AreJoined reader all) where
  -- on an IN channel of the client
  ci_counts : (test : Named → Bool) (m n : ℕ)
      → count_on test ClientIn (all.ins m).came n
      ≤ (if reader n == m then count_on test ClientIn all.client.put n else 0)
  ci_counts test m n = by (reader n == m) refl
    where
      at : (reader n == m) ≡ false → (end : Side)
          → end_of reader (leg_at ClientIn n) end ≡ who.In m → ⊥
      at apart side.Client e = absurd cc
      at apart side.Server e =
          let same : reader n ≡ m = cc in absurd (grind (arith, nat_tests, same, apart))

      by : (b : Bool) → (reader n == m) ≡ b
          → count_on test ClientIn (all.ins m).came n
          ≤ (if b then count_on test ClientIn all.client.put n else 0)
      by true is =
          front_count test (of_leg (leg_at ClientIn n) (all.ins m).came)
          (of_leg (leg_at ClientIn n) all.client.put) (in_front reader all joined m n)
      by false apart =
          subst (λ (ms : List Message). count_of test ms ≤ 0)
          (sym (joined.elsewhere (who.In m) (leg_at ClientIn n) (at apart))) (omega arith)

  pub are_fronts : AreFronts (logs_of reader all)
  are_fronts = record {
    ci_up = ci_counts;
    is_up = λ test n. front_count test (of_leg (leg_at InServer n) all.server.came)
        (of_leg (leg_at InServer n) (all.ins n).put) (is_front reader all joined n);
    is_down = λ test n. front_count test (of_leg (leg_at InServer n) (all.ins n).came)
        (of_leg (leg_at InServer n) all.server.put) (is_back reader all joined n);
    os_down = λ test n. front_count test (of_leg (leg_at OutServer n) (all.outs n).came)
        (of_leg (leg_at OutServer n) all.server.put) (os_back reader all joined n);
    co_down = λ test n. front_count test (of_leg (leg_at ClientOut n) all.client.came)
        (of_leg (leg_at ClientOut n) (all.outs n).put) (co_back reader all joined n);
    co_up = λ test n. front_count test (of_leg (leg_at ClientOut n) (all.outs n).came)
        (of_leg (leg_at ClientOut n) all.client.put) (co_front reader all joined n);
    os_up = λ test n. front_count test (of_leg (leg_at OutServer n) all.server.came)
        (of_leg (leg_at OutServer n) (all.outs n).put) (os_front reader all joined n);
  }
