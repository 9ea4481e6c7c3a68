use Rattle.law_order.proofs.Vocabulary.{ap, ◌∙◌, subst}
use Rattle.rh_inproxy.specs.Machine as in_proxy
use Rattle.rh_outproxy.specs.Machine as out_proxy
use Rattle.rh_client.specs.Client as client
use Rattle.rh_server.specs.Servers as server
use Rattle.law_moves.proofs.Vocabulary.{Shell}
use Rattle.law_role_inproxy.proofs.Vocabulary.{InProxy}
use Rattle.law_role_client.proofs.Vocabulary.{ClientRole}
use Rattle.law_role_server.proofs.Vocabulary.{Server}
use Rattle.law_node_history.proofs.Vocabulary.{AreAccepted, AreAcceptedAtEnd}
use Rattle.law_role_outproxy.proofs.Vocabulary.{OutProxy}
use Rattle.law_node_traces.proofs.Vocabulary.{history_at}
use Rattle.law_world_ways.proofs.live_intakes.worlds.what_comes_is_read.Goals as goal

pub returns : goal.returns
returns g c = record {
  client = λ m w new ours v by leg.
      let known = c.a_recording_of_roles_is_known.ensures.changes m w v new ours by.leads in
      let h = history_at m w v by.leads in
      c.what_a_node_keeps_is_read.ensures.client ours.config h.client leg
      (subst (λ (s : Shell ClientRole). AreAcceptedAtEnd client.rules client.acts s h.client)
      ours.client known.traced.accepted.client) known.in_turn.client;
  server = λ m w new ours v by leg.
      let known = c.a_recording_of_roles_is_known.ensures.changes m w v new ours by.leads in
      let h = history_at m w v by.leads in
      c.what_a_node_keeps_is_read.ensures.server ours.window h.server leg
      (subst (λ (s : Shell Server). AreAcceptedAtEnd server.rules server.acts s h.server)
      ours.server known.traced.accepted.server) known.in_turn.server;
  ins = λ m w new ours ranges port v by n leg.
      let known = c.a_recording_of_roles_is_known.ensures.changes m w v new ours by.leads in
      let flowing = c.what_is_put_is_legible.ensures m w new ours ranges v by in
      let h = history_at m w v by.leads in
      c.what_a_node_keeps_is_read.ensures.in_proxy (ours.in_config n) (h.ins n) leg
      (subst (λ (s : Shell InProxy). AreAccepted in_proxy.rules s (h.ins n))
      (ap (λ (k : g.row.K.Denot). m.in_proxy k n) flowing.cast ∙ ours.ins n)
      (known.traced.accepted.ins n)) (known.in_turn.ins n)
      (c.no_bytes_that_come_ask_for_an_echo.ensures.ins m w new ours ranges port v by n leg);
  outs = λ m w new ours ranges port v by n leg.
      let known = c.a_recording_of_roles_is_known.ensures.changes m w v new ours by.leads in
      let flowing = c.what_is_put_is_legible.ensures m w new ours ranges v by in
      let h = history_at m w v by.leads in
      c.what_a_node_keeps_is_read.ensures.out_proxy (ours.out_config n) (h.outs n) leg
      (subst (λ (s : Shell OutProxy). AreAccepted out_proxy.rules s (h.outs n))
      (ap (λ (k : g.row.K.Denot). m.out_proxy k n) flowing.cast ∙ ours.outs n)
      (known.traced.accepted.outs n)) (known.in_turn.outs n)
      (c.no_bytes_that_come_ask_for_an_echo.ensures.outs m w new ours ranges port v by n leg);
}
