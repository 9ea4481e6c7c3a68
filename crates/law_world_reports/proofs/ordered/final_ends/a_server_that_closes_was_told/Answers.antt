use Rattle.law_order.proofs.Vocabulary.{[], refl, ⊎_elim, false≢true}
use Rattle.rh_server.specs.Servers as server
use Rattle.law_moves.proofs.Vocabulary.{end_started}
use Rattle.law_node_ends.proofs.Stops.ServerStays.{said, server_stays}
use Rattle.law_world_reports.proofs.Ordering.Final.{server_give}
use Rattle.law_world_reports.proofs.Ordering.ToldToClose.{told_by_events}
use Rattle.law_world_reports.proofs.ordered.final_ends.a_server_that_closes_was_told.Goals as goal

pub returns : goal.returns
returns c = λ window events told.
    ⊎_elim (λ before. absurd (false≢true before)) (λ there. there)
    (told_by_events server.rules server.acts said server_stays server_give
    c.roles_move_by_their_rules.ensures.event
    (λ s event held. (c.ends_move_by_their_rules.ensures.event (end_started s.role) s event refl
    held).held)
    (server.new_server window) events
    (c.ends_move_by_their_rules.ensures.run (server.first window) server.rooms []).held told)
