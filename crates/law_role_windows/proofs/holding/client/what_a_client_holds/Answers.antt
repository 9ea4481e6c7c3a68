use Rattle.law_moves.proofs.Vocabulary.{after_end_events}
use Rattle.law_role_client.proofs.Vocabulary.{first_client, rooms, acts as client_acts, rules as client_rules, first, client_moved}
use Rattle.law_role_windows.proofs.Held.Lines.{first_kept, line_holds}
use Rattle.law_role_windows.proofs.Held.Roles.{end_moves_keep, end_events_keep}
use Rattle.law_role_windows.proofs.Held.ClientLine.{Kept, client_keeps, client_calls_keep}
use Rattle.law_role_windows.proofs.holding.client.what_a_client_holds.Goals as goal

pub returns : goal.returns
returns c = record {
  moves = λ config moves is allowed.
      line_holds config.window (client_moved config moves).passage.role.line
      (end_moves_keep client_rules (Kept config.window) (client_keeps config.window) client_acts
      (client_calls_keep config.window) (first config) moves allowed
      (first_kept config.window is));
  events = λ config events is.
      let node = after_end_events client_rules client_acts (first_client config) events in
      line_holds config.window node.role.line
      (end_events_keep client_rules (Kept config.window) (client_keeps config.window) client_acts
      (client_calls_keep config.window) (first config) node
      (c.ends_move_by_their_rules.ensures.run (first config) rooms events)
      (first_kept config.window is));
}
