use Rattle.rh_inproxy.specs.Machine as in_proxy
use Rattle.rh_inproxy.specs.State as in_state
use Rattle.rh_outproxy.specs.declared.out_proxy.TheConstants.{ROOMS}
use Rattle.rh_outproxy.specs.OutProxy.{new_proxy}
use Rattle.rh_outproxy.specs.Machine as out_proxy
use Rattle.rh_server.specs.Servers as server
use Rattle.law_node_traces.proofs.OwnLegs.Ends.{each_there, new_end_so, new_so}
use Rattle.law_node_traces.proofs.OwnLegs.InLegs.{client_keeps}
use Rattle.law_node_traces.proofs.OwnLegs.LegKinds.{by_legs, in_proxy_kinds, out_proxy_kinds, server_kinds}
use Rattle.law_node_traces.proofs.Vocabulary.{IsOfInProxy, IsOfOutProxy, IsOfServer}
use Rattle.law_node_traces.proofs.own_legs.nodes.each_node_keeps_its_own_legs.Goals as goal

pub returns : goal.returns
returns c = record {
  client = client_keeps;
  in_proxy = λ config events end there.
      each_there (λ e. IsOfInProxy e.leg) _ end
      (new_so in_proxy.rules (λ e. IsOfInProxy e.leg)
      (by_legs in_proxy.rules IsOfInProxy in_proxy_kinds) (in_state.first config) in_proxy.rooms
      events) there;
  out_proxy = λ config events end there.
      each_there (λ e. IsOfOutProxy e.leg) _ end
      (new_so out_proxy.rules (λ e. IsOfOutProxy e.leg)
      (by_legs out_proxy.rules IsOfOutProxy out_proxy_kinds) (new_proxy config) ROOMS events)
      there;
  server = λ window events end there.
      each_there (λ e. IsOfServer e.leg) _ end
      (new_end_so server.rules (λ e. IsOfServer e.leg)
      (by_legs server.rules IsOfServer server_kinds) server.acts (server.first window)
      server.rooms events) there;
}
