use Rattle.law_role_server.proofs.Vocabulary.{first, rules as server_rules, acts as server_acts}
use Rattle.law_node_ends.proofs.Unused.Staying.{role_stays_unused, end_stays_unused}
use Rattle.law_node_ends.proofs.Unused.ServerLegs.{IsSound}
use Rattle.law_node_ends.proofs.Unused.ServerStays.{server_keeps, calls_keep, first_is}
use Rattle.law_node_ends.proofs.leaving.server.a_leg_that_a_server_left_stays_unused.Goals as goal

pub returns : goal.returns
returns c = record {
  moves = λ window.
      role_stays_unused server_rules IsSound server_keeps (first window) (first_is window);
  calls = λ window.
      end_stays_unused server_rules IsSound server_keeps server_acts calls_keep (first window)
      (first_is window);
}
