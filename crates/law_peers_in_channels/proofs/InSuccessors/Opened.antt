-- where the client asked for a successor, the server is open
use Rattle.law_order.proofs.Vocabulary.{◌≡◌, ℕ, zero, suc, ◌≤◌, refl, arith}
use Rattle.law_moves.proofs.Vocabulary.{ClientOut, OutServer, of_kind}
use Rattle.law_moves.proofs.Lemmas.{by_proxies}
use Rattle.law_moves.specs.PacketKinds as at_proxy
use Rattle.law_role_client.proofs.Vocabulary.{opened, in_asked}
use Rattle.law_role_client.specs.Counted.Counting as at_client
use Rattle.law_role_client.specs.Counted.Opening as opening
use Rattle.law_role_server.proofs.Vocabulary.{in_came, OpensOnce}
use Rattle.law_role_server.specs.Counted.Counting as at_server
use Rattle.law_role_outproxy.proofs.Vocabulary.{ForwardsWhatCame}
use Rattle.law_role_server_rows.proofs.Refusing.OutRows.{no_packets as texts_count}
use Rattle.law_peers_moments.proofs.GoingRound.Fronts.{are_fronts, logs_of}
use Rattle.law_peers_moments.proofs.GoingRound.Rounding.{same_counts}
use Rattle.law_peers_moments.specs.Moments.{AreJoined, Passages}
use Rattle.law_role_server_in.specs.Refusing as in_rows
use Rattle.law_peers_expects.proofs.ClientExpects.Forwarding.{is_connected as conn_c1, connects as conn_c2}

-- what is known of the ends and the out proxies
pub record Opening (all : Passages) : Type 0 where
  pub client : opening.OpensOnce all.client
  pub server : OpensOnce all.server
  pub outs : (n : ℕ) → ForwardsWhatCame n (all.outs n)

module _ (reader : ℕ → ℕ) (all : Passages) (joined : AreJoined reader all)
    (known : Opening all) where
  -- a client is opened only by CONN/C1
  opened_by : opened all.client ≤ at_server.out_put at_server.is_conn_c1 all.server
  opened_by =
      let l = logs_of reader all in
      let f = are_fronts reader all joined in
      let at_end = same_counts at_client.is_conn_c2 at_proxy.is_conn_c2 conn_c2
      (of_kind ClientOut all.client.came) in
      let down = by_proxies at_proxy.is_conn_c1 at_proxy.is_conn_c2 OutServer ClientOut
      all.client.came all.server.put l.out_came l.out_put (f.co_down at_proxy.is_conn_c2)
      (λ n. (known.outs n).connection) (f.os_down at_proxy.is_conn_c1) in
      let at_start = same_counts at_proxy.is_conn_c1 at_server.is_conn_c1 conn_c1
      (of_kind OutServer all.server.put) in
      omega (arith, at_end, down, at_start)

  was_opened : 1 ≤ in_asked all.client → 1 ≤ opened all.client
  was_opened asked = by (opened all.client) refl
    where
      by : (k : ℕ) → opened all.client ≡ k → 1 ≤ k
      by zero e =
          let none = (known.client.unused e).asked_in in absurd (omega (arith, none, asked))
      by (suc k) e = omega arith

  pub not_opening : 1 ≤ in_asked all.client → in_rows.IsOpening all.server → ⊥
  not_opening asked early =
      let none = texts_count at_server.is_conn_c1 (of_kind OutServer all.server.put)
      (known.server.early early).greetings in
      let some = was_opened asked in
      let by = opened_by in
      omega (arith, none, some, by)

  -- so CONN/B2 came
  pub conn_b2_came : 1 ≤ in_asked all.client
      → in_came at_server.is_conn_b2 all.server ≡ 1
  conn_b2_came asked =
      by (in_came at_server.is_conn_b2 all.server) refl known.server.conn_b2_once
    where
      by : (k : ℕ) → in_came at_server.is_conn_b2 all.server ≡ k → k ≤ 1 → k ≡ 1
      by zero e most =
          let first = known.server.conn_a2_once in
          absurd (not_opening asked (omega (arith, e, first)))
      by (suc k) e most = omega (arith, most)
