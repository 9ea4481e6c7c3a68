use Rattle.law_order.proofs.Vocabulary.{refl}
use Rattle.law_role_client.proofs.Vocabulary.{rules as client_rules, acts as client_acts}
use Rattle.law_node_ends.proofs.Stops.ClientStays.{said, client_stays}
use Rattle.law_node_ends.proofs.Stops.Silent.{closed_is_silent}
use Rattle.law_node_ends.proofs.Stops.Stays.{moves_stay, events_stay}
use Rattle.law_node_ends.proofs.stopping.client.a_client_that_closes_gives_no_more.Goals as goal

pub returns : goal.returns
returns c = record {
  moves = moves_stay client_rules client_acts said client_stays;
  close = λ s. refl;
  events = events_stay client_rules client_acts said client_stays
      c.ends_move_by_their_rules.ensures.event;
  closed = λ s why events h. closed_is_silent client_rules client_acts
      c.first_cause_is_kept.ensures why s events h;
}
