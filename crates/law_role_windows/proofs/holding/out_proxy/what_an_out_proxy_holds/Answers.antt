use Rattle.rh_outproxy.specs.declared.out_proxy.TheConstants.{ROOMS}
use Rattle.rh_outproxy.specs.Machine.{rules as proxy_rules}
use Rattle.rh_outproxy.specs.OutProxy.{new_proxy}
use Rattle.law_moves.proofs.Vocabulary.{begun, all_moved, started, after_events}
use Rattle.law_role_windows.proofs.Held.Lines.{first_kept, line_holds}
use Rattle.law_role_windows.proofs.Held.Roles.{moves_keep, events_keep}
use Rattle.law_role_windows.proofs.Held.OutProxyLine.{Kept, out_proxy_keeps}
use Rattle.law_role_windows.proofs.holding.out_proxy.what_an_out_proxy_holds.Goals as goal

pub returns : goal.returns
returns c = record {
  moves = λ config moves is allowed.
      line_holds config.window (all_moved proxy_rules (started (new_proxy config)) moves).role.line
      (moves_keep proxy_rules (Kept config.window) (out_proxy_keeps config.window)
      (new_proxy config) moves allowed (first_kept config.window is));
  events = λ config events is.
      let node = after_events proxy_rules (begun (new_proxy config) ROOMS) events in
      line_holds config.window node.role.line
      (events_keep proxy_rules (Kept config.window) (out_proxy_keeps config.window)
      (new_proxy config) node
      (c.roles_move_by_their_rules.ensures.run (new_proxy config) ROOMS events)
      (first_kept config.window is));
}
