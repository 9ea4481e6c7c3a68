use Rattle.law_order.proofs.Vocabulary.{ℕ, subst, cases_eq, GiverLaw}
use Rattle.law_moves.proofs.Vocabulary.{Passage, EndPassage}
use Rattle.law_role_client.proofs.Vocabulary.{TakesInOrder}
use Rattle.law_role_server.proofs.Vocabulary.{Server, giver_of, sent}
use Rattle.law_role_outproxy.proofs.Vocabulary.{OutProxy, KeepsOrder}
use Rattle.law_peers_routes.proofs.Downwards.Routing.{with_put, near_leg, far_leg, nothing_elsewhere, taker_quiet, numbered_down}
use Rattle.law_peers_routes.proofs.down.down.what_goes_down_is_a_route.Goals as goal

pub returns : goal.returns
returns c = λ config window out_config client server outs d.
    let s = d.giver.passage in
    let o : ℕ → Passage OutProxy = λ m. (d.proxies m).passage in
    let t = d.taker.passage in
    record {
      giver = subst (λ (p : EndPassage Server). GiverLaw (giver_of p.given p.passage.role) (sent p))
          d.giver.leads.reached
          (c.a_server_gives_in_order.ensures window d.giver.leads.moves);
      passers = λ m h. with_put m (o m) h
          (subst (λ (k : ℕ). KeepsOrder k (o m)) (d.numbered m)
          (subst (KeepsOrder (out_config m).number) (d.proxies m).leads.reached
          (c.an_out_proxy_keeps_order.ensures (out_config m) (d.proxies m).leads.moves
          (d.proxies m).leads.allowed)));
      taker = subst TakesInOrder d.taker.leads.reached
          (c.a_client_takes_in_order.ensures config d.taker.leads.moves d.taker.leads.allowed);
      near = λ m n h. near_leg (sent s n) o m n
          (c.what_a_proxy_takes_was_sent.ensures config window out_config client server outs d n)
          (nothing_elsewhere d m n) (cases_eq m n);
      far = λ m. far_leg m (o m) t
          (c.what_a_client_takes_was_put.ensures config window out_config client server outs d m)
          (taker_quiet d);
      numbered = numbered_down d;
    }
