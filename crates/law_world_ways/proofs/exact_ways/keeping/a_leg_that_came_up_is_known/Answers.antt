use Rattle.rh_inproxy.specs.Machine as in_proxy
use Rattle.rh_inproxy.specs.State as in_state
use Rattle.rh_outproxy.specs.Machine as out_proxy
use Rattle.rh_client.specs.Client as client
use Rattle.rh_client.specs.State as client_state
use Rattle.rh_server.specs.Servers as server
use Rattle.law_role_server.proofs.Vocabulary.{Server}
use Rattle.law_node_causes.proofs.ClientLegs.{first_is}
use Rattle.law_node_causes.proofs.InProxyLegs.{first_numbered}
use Rattle.law_node_causes.specs.Numbers.{AreNumbered, ClientIsNumbered}
use Rattle.law_role_outproxy.proofs.Vocabulary.{ROOMS, OutProxy, new_proxy}
use Rattle.law_world_ways.proofs.ExactWays.CameUp.{end_knows, node_knows}
use Rattle.law_world_ways.proofs.exact_ways.keeping.a_leg_that_came_up_is_known.Goals as goal

pub returns : goal.returns
returns c = record {
  client = λ config events leg.
      end_knows client.rules ClientIsNumbered c.a_clients_leg_comes_up_once.ensures.moves leg
      c.roles_move_by_their_rules.ensures.event client.acts
      c.ends_move_by_their_rules.ensures.event c.a_clients_leg_comes_up_once.ensures.calls
      (client_state.first config) client.rooms (first_is config) events;
  server = λ window events leg.
      end_knows server.rules (λ (s : Server). Unit {0})
      c.a_servers_leg_comes_up_once.ensures.moves leg
      c.roles_move_by_their_rules-2.ensures.event server.acts
      c.ends_move_by_their_rules-2.ensures.event
      c.a_servers_leg_comes_up_once.ensures.calls (server.first window) server.rooms tt events;
  in_proxy = λ config events leg.
      node_knows in_proxy.rules AreNumbered c.an_in_proxys_leg_comes_up_once.ensures.moves leg
      c.roles_move_by_their_rules-3.ensures.event (in_state.first config) in_proxy.rooms
      (first_numbered config) events;
  out_proxy = λ config events leg.
      node_knows out_proxy.rules (λ (s : OutProxy). Unit {0})
      c.an_out_proxys_leg_comes_up_once.ensures.moves leg
      c.roles_move_by_their_rules-4.ensures.event (new_proxy config) ROOMS tt events;
}
