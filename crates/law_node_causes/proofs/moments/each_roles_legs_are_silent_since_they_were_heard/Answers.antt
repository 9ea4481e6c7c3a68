use Rattle.rh_inproxy.specs.Machine as in_proxy
use Rattle.rh_inproxy.specs.State as in_proxies
use Rattle.rh_outproxy.specs.OutProxy.{new_proxy}
use Rattle.rh_outproxy.specs.declared.out_proxy.TheConstants as out_proxies
use Rattle.rh_outproxy.specs.Machine as out_proxy
use Rattle.rh_client.specs.Client as client
use Rattle.rh_client.specs.State as clients
use Rattle.rh_server.specs.Servers as server
use Rattle.law_node_causes.proofs.Touches.{since_is, since_is_at_end}
use Rattle.law_node_causes.proofs.moments.each_roles_legs_are_silent_since_they_were_heard.Goals as goal

pub returns : goal.returns
returns c = record {
  client = λ config events leg end.
      since_is_at_end client.rules client.acts (clients.first config) client.rooms events leg end
      (c.a_clients_leg_comes_up_once.ensures.new config events);
  in_proxy = λ config events leg end.
      since_is in_proxy.rules (in_proxies.first config) in_proxy.rooms events leg end
      (c.an_in_proxys_leg_comes_up_once.ensures.new config events);
  out_proxy = λ config events leg end.
      since_is out_proxy.rules (new_proxy config) out_proxies.ROOMS events leg end
      (c.an_out_proxys_leg_comes_up_once.ensures.new config events);
  server = λ window events leg end.
      since_is_at_end server.rules server.acts (server.first window) server.rooms events leg end
      (c.a_servers_leg_comes_up_once.ensures.new window events);
}
