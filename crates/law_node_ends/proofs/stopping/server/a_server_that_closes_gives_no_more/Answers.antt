use Rattle.law_order.proofs.Vocabulary.{refl}
use Rattle.law_role_server.proofs.Vocabulary.{rules as server_rules, acts as server_acts}
use Rattle.law_node_ends.proofs.Stops.ServerStays.{said, server_stays}
use Rattle.law_node_ends.proofs.Stops.Silent.{closed_is_silent}
use Rattle.law_node_ends.proofs.Stops.Stays.{moves_stay, events_stay}
use Rattle.law_node_ends.proofs.stopping.server.a_server_that_closes_gives_no_more.Goals as goal

pub returns : goal.returns
returns c = record {
  moves = moves_stay server_rules server_acts said server_stays;
  close = λ s. refl;
  events = events_stay server_rules server_acts said server_stays
      c.ends_move_by_their_rules.ensures.event;
  closed = λ s why events h. closed_is_silent server_rules server_acts
      c.first_cause_is_kept.ensures why s events h;
}
