use Rattle.law_order.proofs.Vocabulary.{[], refl, ⊎_elim, false≢true}
use Rattle.rh_client.specs.Client as client
use Rattle.law_moves.proofs.Vocabulary.{end_started}
use Rattle.law_role_client.proofs.Vocabulary.{first}
use Rattle.law_node_ends.proofs.Stops.ClientStays.{client_stays, said}
use Rattle.law_world_reports.proofs.Ordering.Final.{client_give}
use Rattle.law_world_reports.proofs.Ordering.ToldToClose.{told_by_events}
use Rattle.law_world_reports.proofs.ordered.final_ends.a_client_that_closes_was_told.Goals as goal

pub returns : goal.returns
returns c = λ config events told.
    ⊎_elim (λ before. absurd (false≢true before)) (λ there. there)
    (told_by_events client.rules client.acts said client_stays client_give
    c.roles_move_by_their_rules.ensures.event
    (λ s event held. (c.ends_move_by_their_rules.ensures.event (end_started s.role) s event refl
    held).held)
    (client.first_client config) events
    (c.ends_move_by_their_rules.ensures.run (first config) client.rooms []).held told)
