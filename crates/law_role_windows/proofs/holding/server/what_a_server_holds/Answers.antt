use Rattle.law_order.proofs.Vocabulary.{ℕ, refl}
use Rattle.rh_server.specs.Servers.{first, new_server, rooms, acts as server_acts, rules as server_rules}
use Rattle.law_moves.proofs.Vocabulary.{IsWindow, all_end_moved, end_started, after_end_events}
use Rattle.law_role_windows.proofs.Held.Lines.{first_kept, line_holds}
use Rattle.law_role_windows.proofs.Held.Roles.{end_moves_keep, end_events_keep}
use Rattle.law_role_windows.proofs.Held.ServerLine.{Kept, server_keeps, server_calls_keep}
use Rattle.law_role_windows.proofs.holding.server.what_a_server_holds.Goals as goal

starts : (window : ℕ) → IsWindow window → Kept window (first window)
starts window is = record { kept = first_kept window is; shut = λ e. absurd cc; next = refl }

pub returns : goal.returns
returns c = record {
  moves = λ window moves is allowed.
      let kept = end_moves_keep server_rules (Kept window) (server_keeps window) server_acts
      (server_calls_keep window) (first window) moves allowed (starts window is) in
      line_holds window
      (all_end_moved server_rules server_acts (end_started (first window)) moves).passage.role.line
      kept.kept;
  events = λ window events is.
      let node = after_end_events server_rules server_acts (new_server window) events in
      let kept = end_events_keep server_rules (Kept window) (server_keeps window) server_acts
      (server_calls_keep window) (first window) node
      (c.ends_move_by_their_rules.ensures.run (first window) rooms events) (starts window is) in
      line_holds window node.role.line kept.kept;
}
