use Rattle.law_order.proofs.Vocabulary.{◌≡◌}
use Rattle.rh_inproxy.specs.State.{first}
use Rattle.rh_inproxy.specs.Machine as in_proxy
use Rattle.rh_outproxy.specs.OutProxy.{new_proxy}
use Rattle.rh_outproxy.specs.declared.out_proxy.TheConstants as out_proxies
use Rattle.rh_outproxy.specs.Machine as out_proxy
use Rattle.law_moves.proofs.Vocabulary.{ClientIn, ClientOut, begun, after_events}
use Rattle.law_node_causes.proofs.Refusing.{refuses_from_start}
use Rattle.law_node_causes.proofs.RoleRefusals.{in_config, in_heads, in_refuses, out_config, out_heads, out_refuses}
use Rattle.law_node_causes.proofs.refusals.a_proxy_refuses_for_a_reason.Goals as goal

pub returns : goal.returns
returns c = record {
  in_proxy = λ config events.
      let node = after_events in_proxy.rules (in_proxy.first_node config) events in
      in_refuses config node.role node.course
      (in_config config node
      (c.roles_move_by_their_rules.ensures.run (first config) in_proxy.rooms events))
      (refuses_from_start in_proxy.rules (λ l. l.kind ≡ ClientIn) in_heads (first config)
      in_proxy.rooms events);
  out_proxy = λ config events.
      let node =
      after_events out_proxy.rules (begun (new_proxy config) out_proxies.ROOMS) events in
      out_refuses config node.role node.course
      (out_config config node
      (c.roles_move_by_their_rules-2.ensures.run (new_proxy config) out_proxies.ROOMS events))
      (refuses_from_start out_proxy.rules (λ l. l.kind ≡ ClientOut) out_heads (new_proxy config)
      out_proxies.ROOMS events);
}
