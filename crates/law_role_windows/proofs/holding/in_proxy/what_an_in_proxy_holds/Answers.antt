use Rattle.law_order.proofs.Vocabulary.{refl}
use Rattle.rh_inproxy.specs.declared.state.InProxyConfig.{InProxyConfig}
use Rattle.rh_inproxy.specs.Machine.{first_node, rooms, rules as proxy_rules}
use Rattle.rh_inproxy.specs.State.{first}
use Rattle.law_moves.proofs.Vocabulary.{IsWindow, all_moved, started, after_events}
use Rattle.law_role_windows.proofs.Held.Lines.{first_kept, line_holds}
use Rattle.law_role_windows.proofs.Held.Roles.{moves_keep, events_keep}
use Rattle.law_role_windows.proofs.Held.InProxyLine.{Kept, in_proxy_keeps}
use Rattle.law_role_windows.proofs.holding.in_proxy.what_an_in_proxy_holds.Goals as goal

starts : (config : InProxyConfig) → IsWindow config.window → Kept config.window (first config)
starts config is = record { kept = first_kept config.window is; there = refl }

pub returns : goal.returns
returns c = record {
  moves = λ config moves is allowed.
      let kept = moves_keep proxy_rules (Kept config.window) (in_proxy_keeps config.window)
      (first config) moves allowed (starts config is) in
      line_holds config.window (all_moved proxy_rules (started (first config)) moves).role.line
      kept.kept;
  events = λ config events is.
      let node = after_events proxy_rules (first_node config) events in
      let kept = events_keep proxy_rules (Kept config.window) (in_proxy_keeps config.window)
      (first config) node (c.roles_move_by_their_rules.ensures.run (first config) rooms events)
      (starts config is) in
      line_holds config.window node.role.line kept.kept;
}
