use Rattle.rh_inproxy.specs.Machine as in_proxy
use Rattle.rh_outproxy.specs.declared.out_proxy.TheConstants.{ROOMS}
use Rattle.rh_outproxy.specs.OutProxy.{new_proxy}
use Rattle.rh_outproxy.specs.Machine as out_proxy
use Rattle.rh_client.specs.Client as client
use Rattle.rh_server.specs.Servers as server
use Rattle.law_moves.proofs.Vocabulary.{begun, after_end_events, after_events}
use Rattle.law_node_traces.proofs.OwnLegs.Amiss.{ClosesBy, ClosesOnce, client_on_outs, on_its_leg}
use Rattle.law_node_traces.proofs.Vocabulary.{IsOfInProxy, IsOfOutProxy, IsOfServer}
use Rattle.law_node_traces.proofs.own_legs.nodes.each_node_refuses_on_its_own_legs.Goals as goal

pub returns : goal.returns
returns c = record {
  client = λ config events event leg why amiss closes.
      client_on_outs client_law client_once
      (after_end_events client.rules client.acts (client.first_client config) events)
      (c.each_node_keeps_its_own_legs.ensures.client config events) event leg why amiss closes;
  in_proxy = λ config events event leg why amiss closes.
      on_its_leg in_proxy.rules in_law
      (after_events in_proxy.rules (in_proxy.first_node config) events) event leg IsOfInProxy
      (c.each_node_keeps_its_own_legs.ensures.in_proxy config events) why amiss closes;
  out_proxy = λ config events event leg why amiss closes.
      on_its_leg out_proxy.rules out_law
      (after_events out_proxy.rules (begun (new_proxy config) ROOMS) events) event leg IsOfOutProxy
      (c.each_node_keeps_its_own_legs.ensures.out_proxy config events) why amiss closes;
  server = λ window events event leg why amiss closes.
      on_its_leg server.rules server_law
      (after_end_events server.rules server.acts (server.new_server window) events) event leg
      IsOfServer (c.each_node_keeps_its_own_legs.ensures.server window events) why amiss closes;
}
  where
    client_law : ClosesBy client.rules
    client_law = record {
      comes = c.causes_come_from_their_events.ensures;
      may = c.events_close_with_their_causes.ensures;
    }

    client_once : ClosesOnce client.rules
    client_once = record {
      closed = c.a_node_closes_once.ensures.closed;
      again = c.a_node_closes_once.ensures.again;
    }

    server_law : ClosesBy server.rules
    server_law = record {
      comes = c.causes_come_from_their_events-2.ensures;
      may = c.events_close_with_their_causes-2.ensures;
    }

    in_law : ClosesBy in_proxy.rules
    in_law = record {
      comes = c.causes_come_from_their_events-3.ensures;
      may = c.events_close_with_their_causes-3.ensures;
    }

    out_law : ClosesBy out_proxy.rules
    out_law = record {
      comes = c.causes_come_from_their_events-4.ensures;
      may = c.events_close_with_their_causes-4.ensures;
    }
