use Rattle.law_order.proofs.Vocabulary.{ap, refl}
use Rattle.rh_inproxy.specs.declared.state.InProxyConfig.{InProxyConfig}
use Rattle.rh_inproxy.specs.State.{first, channel_of}
use Rattle.rh_inproxy.specs.Time.{a5_came}
use Rattle.rh_inproxy.specs.Machine as in_proxy
use Rattle.law_moves.proofs.Vocabulary.{after_events}
use Rattle.law_node_causes.proofs.RoleRefusals.{in_config}
use Rattle.law_node_causes.proofs.watching.a_proxy_watches_its_client.Goals as goal
use Rattle.law_node_causes.specs.Watching.{in_proxy_limit}

pub returns : goal.returns
returns c = record {
  in_proxy = λ config events leg.
      let node = after_events in_proxy.rules (in_proxy.first_node config) events in
      ap (λ (x : InProxyConfig).
      in_proxy_limit x leg (a5_came node.role (channel_of node.role leg.number)))
      (in_config config node
      (c.roles_move_by_their_rules.ensures.run (first config) in_proxy.rooms events));
  out_proxy = λ role leg. refl;
  server = λ role leg. refl;
}
