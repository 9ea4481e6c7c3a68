use Rattle.rh_inproxy.specs.Machine as in_proxy
use Rattle.rh_inproxy.specs.State as in_state
use Rattle.rh_outproxy.specs.declared.out_proxy.TheConstants.{ROOMS}
use Rattle.rh_outproxy.specs.Machine as out_proxy
use Rattle.rh_outproxy.specs.OutProxy.{new_proxy}
use Rattle.rh_client.specs.Client as client
use Rattle.rh_client.specs.State as client_state
use Rattle.rh_server.specs.Servers as server
use Rattle.law_moves.proofs.Vocabulary.{begun, after_end_events, after_events}
use Rattle.law_node_kept.proofs.Clean.{finished_drew, run_clean, run_clean_at_end}
use Rattle.law_node_kept.proofs.finished.what_a_node_has_finished_is_drawn.Goals as goal

pub returns : goal.returns
returns c = record {
  client = λ config events leg kept.
      finished_drew client.rules
      (after_end_events client.rules client.acts (client.first_client config) events) leg
      (run_clean_at_end client.rules leg client.acts c.ends_move_by_their_rules.ensures.event
      (client_state.first config) client.rooms events kept);
  server = λ window events leg kept.
      finished_drew server.rules
      (after_end_events server.rules server.acts (server.new_server window) events) leg
      (run_clean_at_end server.rules leg server.acts c.ends_move_by_their_rules-2.ensures.event
      (server.first window) server.rooms events kept);
  in_proxy = λ config events leg kept.
      finished_drew in_proxy.rules
      (after_events in_proxy.rules (in_proxy.first_node config) events) leg
      (run_clean in_proxy.rules leg c.roles_move_by_their_rules.ensures.event
      (in_state.first config) in_proxy.rooms events kept);
  out_proxy = λ config events leg kept.
      finished_drew out_proxy.rules
      (after_events out_proxy.rules (begun (new_proxy config) ROOMS) events) leg
      (run_clean out_proxy.rules leg c.roles_move_by_their_rules-2.ensures.event
      (new_proxy config) ROOMS events kept);
}
