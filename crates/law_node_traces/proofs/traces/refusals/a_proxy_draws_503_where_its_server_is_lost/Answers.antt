use Rattle.rh_inproxy.specs.State.{first}
use Rattle.rh_inproxy.specs.Machine as in_proxy
use Rattle.rh_outproxy.specs.OutProxy.{new_proxy}
use Rattle.rh_outproxy.specs.declared.out_proxy.TheConstants as out_proxies
use Rattle.rh_outproxy.specs.Machine as out_proxy
use Rattle.law_moves.proofs.Vocabulary.{ClientIn, ClientOut, InServer, OutServer, begun}
use Rattle.law_node_traces.proofs.Traced.RefusedDraws.{draws_at}
use Rattle.law_node_traces.proofs.traces.refusals.a_proxy_draws_503_where_its_server_is_lost.Goals as goal

pub returns : goal.returns
returns g c = record {
  in_proxy = λ m nodes cast are n leg events.
      let config = are.in_config n in
      draws_at in_proxy.rules (m.in_proxy cast n) (in_proxy.first_node config) ClientIn InServer
      config.number n leg (are.ins n) (are.in_number n)
      (c.a_proxy_refuses_for_a_reason.ensures.in_proxy config) events
      (c.what_a_node_draws_goes_on_or_refuses.ensures (first config) in_proxy.rooms events leg);
  out_proxy = λ m nodes cast are n leg events.
      let config = are.out_config n in
      draws_at out_proxy.rules (m.out_proxy cast n) (begun (new_proxy config) out_proxies.ROOMS)
      ClientOut OutServer config.number n leg (are.outs n) (are.out_number n)
      (c.a_proxy_refuses_for_a_reason.ensures.out_proxy config) events
      (c.what_a_node_draws_goes_on_or_refuses-2.ensures (new_proxy config) out_proxies.ROOMS
      events leg);
}
