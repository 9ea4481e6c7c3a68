use Rattle.law_order.proofs.Vocabulary.{refl}
use Rattle.rh_inproxy.specs.State.{first}
use Rattle.rh_inproxy.specs.Machine as in_proxy
use Rattle.rh_outproxy.specs.Machine as out_proxy
use Rattle.rh_client.specs.Client as client
use Rattle.rh_client.specs.State as clients
use Rattle.rh_server.specs.Servers as server
use Rattle.law_node_causes.proofs.SilentLegs.{client_silent, in_silent, never_silent}
use Rattle.law_node_causes.proofs.watching.a_node_falls_silent_since_it_was_heard.Goals as goal

pub returns : goal.returns
returns c = record {
  client = λ config events.
      client_silent config events (c.a_clients_leg_comes_up_once.ensures.new config events)
      (c.ends_move_by_their_rules.ensures.run (clients.first config) client.rooms events);
  in_proxy = λ config events.
      in_silent config events (c.an_in_proxys_leg_comes_up_once.ensures.new config events)
      (c.roles_move_by_their_rules.ensures.run (first config) in_proxy.rooms events);
  out_proxy = λ node event leg since now h.
      never_silent out_proxy.rules node event leg since now h (λ role l. refl);
  server = λ node event leg since now h.
      never_silent server.rules node event leg since now h (λ role l. refl);
}
